use Rattle.std.proofs.Common.{◌≡◌, length}
use Rattle.symbolic_values.specs.Prelude.{SlotAt}
use Rattle.region_walk.specs.Prelude.{Numbers}
use Rattle.region_walk.proofs.region_values.slot_numbers.Given as goal

abbrev pub invariant-loop-slot : goal.invariant-loop-slot
invariant-loop-slot l = record {
  found : Numbers l.slot SlotAt l.initial.values l.values l.numbers;
  size : length l.numbers ≡ 8;
}
