use Rattle.module_calls.proofs.Kept.{kept_meaning}
use Rattle.module_calls.proofs.laws.inlining_law.Goals as goal

pub returns : goal.returns
returns c = kept_meaning
