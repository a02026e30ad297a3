use Rattle.std.proofs.Common.{◌≡◌}
use Rattle.scalar_ranges.specs.Prelude.{nothing_known}
use Rattle.scalar_ranges.proofs.ranges.nothing_known.Given as goal

abbrev pub invariant-loop : goal.invariant-loop
invariant-loop l = l.known.items ≡ nothing_known l.counter
