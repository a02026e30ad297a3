use Rattle.std.proofs.Common.{◌≡◌, length}
use Rattle.symbolic_values.specs.Prelude.{Reg}
use Rattle.region_walk.specs.Prelude.{Numbers}
use Rattle.region_walk.proofs.region_values.register_numbers.Given as goal

abbrev pub invariant-loop-register : goal.invariant-loop-register
invariant-loop-register l = record {
  found : Numbers l.register Reg l.initial.values l.values l.numbers;
  size : length l.numbers ≡ 32;
}
