use Rattle.processor.proofs.PathsTold.{joined_paths, told_paths}
use Rattle.processor.proofs.laws.paths_told.Goals as goal

pub returns-clause-paths : goal.returns-clause-paths
returns-clause-paths g c = told_paths g.B.Bank.shows g.met.B.Bank.shows_each

pub returns-clause-runs_join : goal.returns-clause-runs_join
returns-clause-runs_join g c = joined_paths g.B.Bank.shows g.met.B.Bank.shows_each
