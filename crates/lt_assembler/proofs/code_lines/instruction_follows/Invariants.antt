use Rattle.std.proofs.Common.{◌≡◌, length}
use Rattle.lt_assembler.specs.Prelude.{lines, instruction_follows}
use Rattle.lt_assembler.proofs.code_lines.instruction_follows.Given as goal

abbrev pub invariant-loop-list : goal.invariant-loop-list
invariant-loop-list l = instruction_follows (lines l.rest) ≡ instruction_follows (lines l.fn.text)

abbrev pub decreases-loop-list : goal.decreases-loop-list
decreases-loop-list l = length l.rest
