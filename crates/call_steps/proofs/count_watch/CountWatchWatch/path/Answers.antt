use Rattle.call_steps.proofs.EventCounts.{path-uncounted}
use Rattle.call_steps.proofs.count_watch.CountWatchWatch.path.Goals as goal

pub returns-clause-heard : goal.returns-clause-heard
returns-clause-heard c = path-uncounted c.args.self.now c.args._stamp c.args._bank c.args._leaves.now
