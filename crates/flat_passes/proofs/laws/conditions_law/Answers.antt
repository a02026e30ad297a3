use Rattle.flat_passes.proofs.SameConditions.{conditions_keep}
use Rattle.flat_passes.proofs.laws.conditions_law.Goals as goal

pub returns : goal.returns
returns c = conditions_keep
