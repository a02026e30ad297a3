-- A place within the region doesn't wait, and another one does.
use Rattle.std.proofs.Common.{sym, subst}
use Rattle.note_infer.specs.Prelude.{AwaitsOne, Within}
use Rattle.note_infer.specs.Kept.{Outside}
use Rattle.note_infer.proofs.origins.await_one.Goals as goal

pub returns-then-origin-join : goal.returns-then-origin-join
returns-then-origin-join c = Within c.if-place-origin.true c.if-origin-join.true

pub returns-in-Ok : goal.returns-in-Ok
returns-in-Ok c =
    subst (AwaitsOne c.args.place c.args.join c.args.origin c.args.stack.now.items) (sym c.in-Ok.ensures.items) Outside
