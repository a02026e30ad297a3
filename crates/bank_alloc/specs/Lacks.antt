-- For the proofs and for private clauses only: what lacks room, found one after another.
use Rattle.std.specs.Prelude.{ℕ, ◌+◌, ◌≤◌, nat_lt, if◌then◌else◌, List, [], ◌∷◌, length, All, Option, Some, None}
use Rattle.gr_word.specs.declared.variables.Label.TheVariants.{Public, Secret}
use Rattle.lt_isa.specs.Limits.{most_blocks}
use Rattle.src_tree.specs.Limits.{max_variables, max_length}
use Rattle.bank_alloc.specs.declared.places.Place.{Place}
use Rattle.bank_alloc.specs.declared.places.PlaceError.{PlaceError}
use Rattle.bank_alloc.specs.declared.places.PlaceError.TheVariants.{TooManyScalars, BankFull}
use Rattle.bank_alloc.specs.Places.{scalars_in}

-- places as few and as long as those of a program's variables
pub record AreFew (places : List Place) : Type 0 where
  pub count : length places ≤ max_variables
  pub lengths : All (λ q. q.length ≤ max_length) places

-- the first of some banks, from a number on, that needs more blocks than it may have
abbrev pub first_full : ℕ → List ℕ → Option PlaceError
first_full bank [] = None
first_full bank (blocks ∷ rest) =
    if nat_lt (most_blocks bank) blocks then Some (BankFull bank) else first_full (bank + 1) rest

-- the first lack of room for variables at some places, in banks that need this many blocks
abbrev pub first_lack : ℕ → List Place → List ℕ → Option PlaceError
first_lack size places blocks =
    if nat_lt size (scalars_in 0 places) then Some (TooManyScalars Public)
    else (if nat_lt size (scalars_in 1 places) then Some (TooManyScalars Secret) else first_full 0 blocks)
