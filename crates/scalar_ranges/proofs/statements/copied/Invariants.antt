use Rattle.std.proofs.Common.{◌≡◌, ◌++◌, drop}
use Rattle.scalar_ranges.proofs.statements.copied.Given as goal

abbrev pub invariant-loop-range : goal.invariant-loop-range
invariant-loop-range l = l.all.items ++ drop l.range-index l.known ≡ l.known
