use Rattle.call_laws.proofs.SomeAnswers.{some-answers}
use Rattle.call_laws.proofs.laws.some_answer.Goals as goal

pub returns : goal.returns
returns c = some-answers
