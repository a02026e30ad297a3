use Rattle.lt_isa.specs.Prelude.{observed_of}
use Rattle.call_steps.proofs.EventCounts.{event-counted}
use Rattle.call_steps.proofs.count_watch.CountWatchWatch.seen.Goals as goal

pub returns-clause-heard : goal.returns-clause-heard
returns-clause-heard c =
    event-counted c.args.self.now c.count.new.self c.args._stamp (observed_of c.args.event.now) c.count.ensures
