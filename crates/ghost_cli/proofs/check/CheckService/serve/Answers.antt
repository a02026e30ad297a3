use Rattle.std.proofs.Common.{refl}
use Rattle.call_replies.specs.declared.replies.Verdict.TheVariants.{Accepted}
use Rattle.call_steps.specs.Prelude.{WorkStops, nothing_seen, Ends, stage}
use Rattle.call_steps.proofs.Answering.{left-said, passed-on}
use Rattle.call_steps.proofs.Reaching.{with-verdict}
use Rattle.ghost_cli.proofs.check.CheckService.serve.Goals as goal

pub returns-in_err-find_accepted-clause-stopped : goal.returns-in_err-find_accepted-clause-stopped
returns-in_err-find_accepted-clause-stopped g c =
    passed-on c.from_residual.result _ _ _ _ c.from_residual.ensures.1
    (WorkStops _ refl (c.in_err-find_accepted.ensures.stopped (λ o. Ends nothing_seen Accepted)).stops)

pub returns-clause-done : goal.returns-clause-done
returns-clause-done g c =
    left-said (stage (g.F.Shelf.seen c.args.shelf.now) (g.F.Shelf.log c.args.shelf.now))
    (stage (g.F.Shelf.seen c.find_accepted.new.shelf) (g.F.Shelf.log c.find_accepted.new.shelf))
    (g.O.Sink.seen c.args.out.now) _ (g.O.Sink.seen c.say.new.out) _ _ _
    (WorkStops _ refl
    (with-verdict Accepted (c.in_ok-find_accepted.ensures.found (λ o. Ends nothing_seen Accepted))).stops) refl
    c.say.ensures

pub returns-in_err-find_accepted-clause-calls : goal.returns-in_err-find_accepted-clause-calls
returns-in_err-find_accepted-clause-calls g c =
    (c.in_err-find_accepted.ensures.stopped (λ o. Ends nothing_seen Accepted)).calls

pub returns-clause-calls : goal.returns-clause-calls
returns-clause-calls g c =
    (with-verdict Accepted (c.in_ok-find_accepted.ensures.found (λ o. Ends nothing_seen Accepted))).calls
