use Rattle.std.proofs.Common.{◌≡◌}
use Rattle.strength_reduction.proofs.SetBits.{bits_below}
use Rattle.strength_reduction.proofs.bits.set_bits.Given as goal

abbrev pub invariant-loop-k : goal.invariant-loop-k
invariant-loop-k l = l.bits.items ≡ bits_below l.number l.k
