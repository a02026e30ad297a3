use Rattle.call_steps.proofs.Saying.{no-assembly}
use Rattle.call_steps.proofs.reading.assembly_in.Goals as goal

pub returns-in-Err-clause-refused : goal.returns-in-Err-clause-refused
returns-in-Err-clause-refused c = no-assembly _ _ _ c.in-Err.ensures.first c.not_assembled.ensures
