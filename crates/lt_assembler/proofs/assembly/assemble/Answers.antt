use Rattle.lt_assembler.proofs.FirstFaulty.{is_first}
use Rattle.lt_assembler.proofs.Answered.{is_spelled, is_only}
use Rattle.lt_assembler.proofs.assembly.assemble.Goals as goal

pub returns-clause-spelled : goal.returns-clause-spelled
returns-clause-spelled c = is_spelled c.args.text.now c.assembled.result c.assembled.ensures

pub returns-clause-only : goal.returns-clause-only
returns-clause-only c = is_only c.args.text.now c.assembled.result c.assembled.ensures

pub returns-clause-first : goal.returns-clause-first
returns-clause-first c = is_first c.args.text.now (λ o. o) c.assembled.result c.assembled.ensures
