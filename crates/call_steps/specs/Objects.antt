-- Object files: their limit, and what their bytes encode.
use Rattle.std.specs.Prelude.{◌≡◌, ℕ, List}
use Rattle.lt_isa.specs.Object.{Parts}
use Rattle.lt_isa.specs.Ranges.{IsInRange}
use Rattle.object_file.specs.Spelling.{spelling}

-- the most bytes that an object file may have
abbrev pub object_limit : ℕ
object_limit = 33554432

-- the bytes encode an object, each field of which is in its range
pub record SpellsObject (bytes : List ℕ) (o : Parts) : Type 0 where
  pub in_range : IsInRange o
  pub spelled : bytes ≡ spelling o
