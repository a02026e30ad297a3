use Rattle.call_laws.proofs.OneAnswers.{trace-agrees}
use Rattle.call_laws.proofs.laws.trace_agrees.Goals as goal

pub returns : goal.returns
returns c = trace-agrees
