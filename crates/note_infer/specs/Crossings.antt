-- The branches that are crossed, as the search keeps them. (Only clauses of the search cite this.)
use Rattle.std.specs.Prelude.{◌≡◌, ℕ, Bool, false, List, slice_index_or}
use Rattle.note_infer.specs.Ways.{is_crossed}

-- the branches that are crossed, the last that joined first, of code of a size
pub record Crossings : Type 0 where
  pub size : ℕ
  pub list : List ℕ

-- a table says of each place whether it is among those of a list
abbrev pub TellsCrossed : List ℕ → List Bool → Type 0
TellsCrossed list among = (p : ℕ) → slice_index_or among p false ≡ is_crossed list p
