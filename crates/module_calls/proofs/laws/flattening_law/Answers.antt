use Rattle.module_calls.proofs.Whole.{flattened_meaning}
use Rattle.module_calls.proofs.laws.flattening_law.Goals as goal

pub returns : goal.returns
returns c = flattened_meaning
