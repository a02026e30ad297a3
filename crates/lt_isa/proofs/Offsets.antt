-- An offset of 32 bits stays the same if it is converted to 32 bits, as the code does.
use Rattle.std.proofs.Common.{◌≡◌, ℤ, to_z, of_z, w32, rules}
use Rattle.std.proofs.lemmas.Int.{wraps}
use Rattle.lt_isa.specs.Prelude.{IsOffset}

-- an offset as the code passes it on
pub handed_on : (offset : ℤ) → IsOffset offset → to_z w32 (of_z w32 offset) ≡ offset
handed_on offset small = search (rules, wraps)
