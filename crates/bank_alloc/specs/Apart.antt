-- Properties of the places of a program's variables: each is within a bank of its label, and no two share a word. (This
-- project's profile.)
use Rattle.std.specs.Prelude.{◌≡◌, ℕ, ◌+◌, ◌*◌, ◌^◌, ◌<◌, ◌≤◌, ◌⊎◌}
use Rattle.gr_base.specs.Lists.{Within}
use Rattle.gr_word.specs.declared.variables.Label.{Label}
use Rattle.gr_word.specs.declared.variables.Label.TheVariants.{Public, Secret}
use Rattle.lt_isa.specs.Limits.{most_words}
use Rattle.src_tree.specs.declared.trees.Decl.{Decl}
use Rattle.src_tree.specs.Contexts.{shape_of}
use Rattle.src_tree.specs.Trees.{Source}
use Rattle.bank_alloc.specs.declared.places.Place.{Place}
use Rattle.bank_alloc.specs.Places.{places_of, bank_count, blocks_needed}

-- public variables are stored in plain memory, and secret ones anywhere else
abbrev pub IsBankOf : Label → ℕ → Type 0
IsBankOf Public bank = bank ≡ 0
IsBankOf Secret bank = 1 ≤ bank

-- the bank of the scalars of a label
abbrev pub scalar_bank : Label → ℕ
scalar_bank Public = 0
scalar_bank Secret = 1

-- the numbers of a place's first word in its bank and of the word after its last, if a block has `size` words
abbrev pub start_of_place : ℕ → Place → ℕ
start_of_place size q = q.block * size + q.word

abbrev pub end_of_place : ℕ → Place → ℕ
end_of_place size q = start_of_place size q + q.length

-- a variable is within its bank
pub record LiesWithin (p : Source) (w : ℕ) (d : Decl) (q : Place) : Type 0 where
  pub bank : q.bank < bank_count (places_of p w)
  pub block : q.block < blocks_needed p w q.bank
  pub word : q.word < 2 ^ w
  pub size : Within 1 (most_words (shape_of d.length)) q.length
  pub inside : end_of_place (2 ^ w) q ≤ blocks_needed p w q.bank * 2 ^ w

-- of two places of one bank one ends before the other begins
abbrev pub AreApart : ℕ → Place → Place → Type 0
AreApart size q r = q.bank ≡ r.bank → (end_of_place size q ≤ start_of_place size r)
    ⊎ (end_of_place size r ≤ start_of_place size q)
