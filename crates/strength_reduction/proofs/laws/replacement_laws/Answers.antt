use Rattle.strength_reduction.proofs.Replacing.{steps-replace}
use Rattle.strength_reduction.proofs.Wrapping.{mul-turned}
use Rattle.strength_reduction.proofs.laws.replacement_laws.Goals as goal

pub returns : goal.returns
returns c = record { replaces = steps-replace; turned = mul-turned }
