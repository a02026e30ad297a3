use Rattle.processor.proofs.Joining.{runs_join as runs_that_join}
use Rattle.processor.proofs.laws.runs_join.Goals as goal

pub returns : goal.returns
returns c = runs_that_join
