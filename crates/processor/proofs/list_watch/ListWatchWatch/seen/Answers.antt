use Rattle.std.proofs.Common.{◌∷◌, [], ◌++◌, ap, ◌∙◌}
use Rattle.lt_isa.specs.Prelude.{observed_of, seen_at}
use Rattle.processor.proofs.KeptPaths.{keeps-event}
use Rattle.processor.proofs.list_watch.ListWatchWatch.seen.Goals as goal

pub returns-clause-heard : goal.returns-clause-heard
returns-clause-heard c =
    let event = seen_at c.args.stamp (observed_of c.args.event.now) in
    keeps-event c.args.self.now _ event
    (ap (λ t. t.events) c.push.ensures ∙ ap (λ w. w.told.events ++ event ∷ []) c.self.view_is)
    (ap (λ w. w.paths) c.self.view_is)
