-- What is known of the bytes that were read from a file, or written to one. (This project's profile.)
use Rattle.std.specs.Prelude.{◌≡◌, ℕ, List, take, Option, IfSome}
use Rattle.std.specs.Io.KnownBytes.{Appends}

-- These are the first `most` bytes that the reader had left, or all of them if it had fewer. Nothing is stated of a
-- reader whose bytes aren't known.
abbrev pub IsFrontOf : Option (List ℕ) → ℕ → List ℕ → Type 0
IsFrontOf left most bytes = IfSome left (λ all. bytes ≡ take most all)

-- Some file, as it was before these bytes were written to it and as it was after that. Nothing is stated of a file
-- whose bytes aren't known.
pub record AreAppended {F : Type 0} (contents : F → Option (List ℕ)) (bytes : List ℕ) : Type 0 where
  pub before : F
  pub after : F
  pub are : Appends (contents before) (contents after) bytes

-- how contracts see an input over a reader: the bytes that the reader has left, if they are visible, and how many reads
-- failed
pub record InputSeen : Type 0 where
  pub left : Option (List ℕ)
  pub faults : ℕ
