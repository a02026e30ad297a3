use Rattle.std.proofs.Common.{◌≡◌, ◌≤◌, drop, length}
use Rattle.compiled_objects.specs.Prelude.{with_places}
use Rattle.code_gen.proofs.numbers.hold_places.Given as goal

abbrev pub invariant-loop-place : goal.invariant-loop-place
invariant-loop-place l = record {
  held : with_places l.held.items (drop l.place-index l.places) ≡ with_places l.fn.held.items l.places;
  few : length l.held.items ≤ 13;
}
