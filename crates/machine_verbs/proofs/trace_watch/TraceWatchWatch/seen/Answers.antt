use Rattle.std.proofs.Common.{rules, ◌≡◌, ◌∷◌, [], true, sym, subst}
use Rattle.lt_isa.specs.Prelude.{observed_of, seen_at}
use Rattle.processor.specs.Prelude.{AnEvent, TellsMore}
use Rattle.machine_verbs.specs.Prelude.{HoldsTold}
use Rattle.machine_verbs.proofs.Watches.{seen_told}
use Rattle.machine_verbs.proofs.trace_watch.TraceWatchWatch.seen.Goals as goal

pub returns-in-Ok-clause-heard : goal.returns-in-Ok-clause-heard
returns-in-Ok-clause-heard g c =
    let whole : c.args.self.now.whole ≡ true = search rules in
    subst (λ w. TellsMore (HoldsTold c.args.self.now.paths (g.O.Sink.seen c.args.self.now.out.now).held
    c.args.self.now.start c.args.self.now.stop w) (HoldsTold c.args.self.now.paths
    (g.O.Sink.seen c.put_event.new.out).held c.args.self.now.start c.mark-self.result w)
    (AnEvent (seen_at c.args.stamp (observed_of c.args.event.now)) ∷ [])) (sym whole)
    (seen_told c.args.self.now.paths _ _ _ _ _ _ c.in-Ok.ensures.added)
