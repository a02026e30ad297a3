use Rattle.std.proofs.Common.{◌≡◌}
use Rattle.lt_checker.specs.Prelude.{reached_at, NoneBelow, arrived}
use Rattle.lt_checker.proofs.places.lowest_refusal.Given as goal

abbrev pub invariant-loop-place : goal.invariant-loop-place
invariant-loop-place l = record {
  reached : arrived l.arrival l.known ≡ reached_at l.object l.place;
  none_below : NoneBelow l.object l.place;
}
