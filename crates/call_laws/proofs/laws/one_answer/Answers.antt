use Rattle.call_laws.proofs.SourceAnswers.{one-answers}
use Rattle.call_laws.proofs.laws.one_answer.Goals as goal

pub returns : goal.returns
returns c = one-answers
