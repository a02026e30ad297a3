-- When the variables of a program that is compiled with `--fast` have room, and what lacks room first. A program isn't
-- rejected for an array that can't be resident. (This project's profile.)
use Rattle.std.specs.Prelude.{ℕ, ◌^◌, ◌<◌, ◌≤◌}
use Rattle.lt_isa.specs.Limits.{most_blocks}
use Rattle.src_tree.specs.Trees.{Source}
use Rattle.bank_alloc.specs.declared.places.PlaceError.{PlaceError}
use Rattle.bank_alloc.specs.Fits.{LacksRoom, ScalarsFit}
use Rattle.resident_alloc.specs.Residents.{wants_of}
use Rattle.resident_alloc.specs.ResidentPlan.{resident_banks, resident_blocks}

-- the banks below one don't need more than their limits
abbrev pub ResidentsFitBelow : Source → ℕ → ℕ → Type 0
ResidentsFitBelow p w bank = (b : ℕ) → b < bank → resident_blocks (2 ^ w) (wants_of p) b ≤ most_blocks b

pub record ResidentsFit (p : Source) (w : ℕ) : Type 0 where
  pub scalars : ScalarsFit p w
  pub banks : ResidentsFitBelow p w (resident_banks (2 ^ w) (wants_of p))

-- a bank needs more than its limit, and none below it does
pub record IsFirstOverfull (p : Source) (w : ℕ) (bank : ℕ) : Type 0 where
  pub full : most_blocks bank < resident_blocks (2 ^ w) (wants_of p) bank
  pub first : ResidentsFitBelow p w bank

-- what lacks room first
abbrev pub ResidentsRefuse : Source → ℕ → PlaceError → Type 0
ResidentsRefuse p w e = LacksRoom (IsFirstOverfull p w) p w e
