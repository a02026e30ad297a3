use Rattle.std.proofs.Common.{◌≡◌, ◌++◌, take, flat_map}
use Rattle.object_file.specs.Prelude.{instruction}
use Rattle.object_file.proofs.encoding.put_code.Given as goal

abbrev pub invariant-loop-instr : goal.invariant-loop-instr
invariant-loop-instr l = l.out.items ≡ l.initial.out.items ++ flat_map instruction (take l.instr-index l.code)
