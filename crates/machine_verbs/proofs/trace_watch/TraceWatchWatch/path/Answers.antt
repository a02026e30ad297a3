use Rattle.std.proofs.Common.{rules, ◌≡◌, ◌∷◌, [], true, false, sym, subst}
use Rattle.processor.specs.Prelude.{APath, TellsMore}
use Rattle.gr_base.specs.Prelude.{Adds}
use Rattle.run_data.specs.Prelude.{path_line}
use Rattle.machine_verbs.specs.Prelude.{HoldsTold}
use Rattle.machine_verbs.proofs.Watches.{path_told, path_untold}
use Rattle.machine_verbs.proofs.trace_watch.TraceWatchWatch.path.Goals as goal

pub returns-then-not-self-clause-heard : goal.returns-then-not-self-clause-heard
returns-then-not-self-clause-heard g c =
    let w = c.args.self.now in
    let held = (g.O.Sink.seen w.out.now).held in
    let none : w.paths ≡ false = search rules in
    subst (λ p. TellsMore (HoldsTold p held w.start w.stop w.whole) (HoldsTold p held w.start w.stop w.whole)
    (APath c.args.stamp c.args.bank c.args.leaves.now ∷ [])) (sym none)
    (path_untold held w.start w.stop w.whole c.args.stamp c.args.bank c.args.leaves.now)

pub returns-in-Ok-clause-heard : goal.returns-in-Ok-clause-heard
returns-in-Ok-clause-heard g c =
    let w = c.args.self.now in
    let before = (g.O.Sink.seen w.out.now).held in
    let now = (g.O.Sink.seen c.put_path.new.out).held in
    let whole : w.whole ≡ true = search rules in
    let some : w.paths ≡ true = search rules in
    subst (λ q. TellsMore (HoldsTold w.paths before w.start w.stop q)
    (HoldsTold w.paths now w.start c.mark-self.result q) (APath c.args.stamp c.args.bank c.args.leaves.now ∷ []))
    (sym whole)
    (subst (λ p. TellsMore (HoldsTold p before w.start w.stop true) (HoldsTold p now w.start c.mark-self.result true)
    (APath c.args.stamp c.args.bank c.args.leaves.now ∷ [])) (sym some)
    (path_told before now w.start w.stop c.mark-self.result c.args.stamp c.args.bank c.args.leaves.now
    (subst (λ leaves. Adds before now (path_line c.args.stamp c.args.bank leaves)) c.listed.ensures.value
    c.in-Ok.ensures.added)))
