use Rattle.module_calls.proofs.Tailed.{tailed_meaning}
use Rattle.module_calls.proofs.laws.tails_law.Goals as goal

pub returns : goal.returns
returns c = tailed_meaning
