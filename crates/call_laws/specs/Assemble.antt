-- The verb `asm TEXT OUT`.
use Rattle.std.specs.Prelude.{ℕ, List}
use Rattle.object_file.specs.Spelling.{spelling}
use Rattle.call_replies.specs.declared.replies.Done.TheVariants.{Assembled}
use Rattle.call_steps.specs.Work.{Work, Writes}
use Rattle.call_steps.specs.Steps.{with_assembly}

abbrev pub assemble_work : List ℕ → List ℕ → Work
assemble_work text output = with_assembly text (λ o. Writes output (spelling o) Assembled)
