use Rattle.std.proofs.Common.{ℕ, ◌^◌, ◌<◌}
use Rattle.path_oram.proofs.first.height_for.Given as goal

-- no lower tree has enough leaves
abbrev pub invariant-loop-height : goal.invariant-loop-height
invariant-loop-height l = (less : ℕ) → less < l.height → 2 ^ less < l.count
