-- Which slots serve arrays that aren't resident.
use Rattle.std.proofs.Common.{ℕ, arith}
use Rattle.gr_base.specs.Prelude.{Within}
use Rattle.scratch_alloc.specs.Prelude.{Serves, PlainSlot, EncryptedSlot, ObliviousSlot}

-- the slots of arrays
pub serves-within : {bank slot : ℕ} → Serves bank slot → Within 2 6 slot
serves-within (PlainSlot slot within) = (omega (arith, within.0), omega (arith, within.1))
serves-within (EncryptedSlot slot within) = (omega (arith, within.0), omega (arith, within.1))
serves-within (ObliviousSlot bank least) = (omega arith, omega arith)
