-- When there is room for the variables of a program, and what lacks room first (this project's profile).
use Rattle.std.specs.Prelude.{ℕ, ◌^◌, ◌<◌, ◌≤◌, count_by}
use Rattle.gr_word.specs.declared.variables.Label.{Label}
use Rattle.gr_word.specs.declared.variables.Label.TheVariants.{Public, Secret}
use Rattle.lt_isa.specs.Limits.{most_blocks}
use Rattle.src_tree.specs.Trees.{Source}
use Rattle.bank_alloc.specs.declared.places.PlaceError.{PlaceError}
use Rattle.bank_alloc.specs.declared.places.PlaceError.TheVariants.{TooManyScalars, BankFull, Memory}
use Rattle.bank_alloc.specs.Classes.{is_scalar}
use Rattle.bank_alloc.specs.Places.{places_of, bank_count, blocks_needed}

-- how many scalars of a label a program has
abbrev pub scalars_of : Label → Source → ℕ
scalars_of label p = count_by (is_scalar label) p.decls

-- the scalars of each label fit one block
-- Rule: source/scalars.
pub record ScalarsFit (p : Source) (w : ℕ) : Type 0 where
  pub public : scalars_of Public p ≤ 2 ^ w
  pub secret : scalars_of Secret p ≤ 2 ^ w

-- the banks below one don't need more than their limits
abbrev pub BanksFitBelow : Source → ℕ → ℕ → Type 0
BanksFitBelow p w bank = (b : ℕ) → b < bank → blocks_needed p w b ≤ most_blocks b

pub record Fits (p : Source) (w : ℕ) : Type 0 where
  pub scalars : ScalarsFit p w
  pub banks : BanksFitBelow p w (bank_count (places_of p w))

-- a bank needs more than its limit, and none below it does
-- Rule: source/bank.
pub record IsFirstFull (p : Source) (w : ℕ) (bank : ℕ) : Type 0 where
  pub full : most_blocks bank < blocks_needed p w bank
  pub first : BanksFitBelow p w bank

-- What lacks room first, where a relation says which bank is the first that does: the public scalars come first, then
-- the secret ones, then the banks from the lowest. Running out of memory says nothing about the program.
abbrev pub LacksRoom : (ℕ → Type 0) → Source → ℕ → PlaceError → Type 0
LacksRoom IsFirst p w (TooManyScalars Public) = 2 ^ w < scalars_of Public p
LacksRoom IsFirst p w (TooManyScalars Secret) = (scalars_of Public p ≤ 2 ^ w) × (2 ^ w < scalars_of Secret p)
LacksRoom IsFirst p w (BankFull bank) = ScalarsFit p w × IsFirst bank
LacksRoom IsFirst p w Memory = Unit {0}

abbrev pub Refuses : Source → ℕ → PlaceError → Type 0
Refuses p w e = LacksRoom (IsFirstFull p w) p w e
