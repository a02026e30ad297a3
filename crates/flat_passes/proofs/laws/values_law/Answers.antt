use Rattle.flat_passes.proofs.KeptValues.{values_keep}
use Rattle.flat_passes.proofs.laws.values_law.Goals as goal

pub returns : goal.returns
returns c = values_keep
