use Rattle.module_calls.specs.Rules.{pure_in}
use Rattle.module_calls.proofs.Obeying.{module_fine}
use Rattle.module_calls.proofs.laws.rules_law.Goals as goal

pub returns : goal.returns
returns c = λ m is. module_fine (pure_in m) m is
