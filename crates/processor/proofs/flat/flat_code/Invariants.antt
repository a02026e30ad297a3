use Rattle.std.proofs.Common.{◌≡◌, length}
use Rattle.processor.specs.Prelude.{AreFlatForms}
use Rattle.processor.proofs.flat.flat_code.Given as goal

abbrev pub invariant-loop-instruction : goal.invariant-loop-instruction
invariant-loop-instruction l = record {
  count : length l.flats.items ≡ l.instruction-index;
  each : AreFlatForms l.flats.items l.object.code;
}
