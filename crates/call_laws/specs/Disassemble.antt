-- The verb `dis OBJ OUT`.
use Rattle.std.specs.Prelude.{ℕ, List}
use Rattle.lt_assembler.specs.Canonical.{canonical}
use Rattle.call_replies.specs.declared.replies.Done.TheVariants.{Disassembled}
use Rattle.call_steps.specs.Work.{Work, Writes}
use Rattle.call_steps.specs.Steps.{with_object}

abbrev pub disassemble_work : List ℕ → List ℕ → Work
disassemble_work object output = with_object object (λ o. Writes output (canonical o) Disassembled)
