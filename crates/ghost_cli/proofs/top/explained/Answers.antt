use Rattle.call_steps.specs.Prelude.{stage}
use Rattle.call_steps.proofs.Answering.{left-said}
use Rattle.ghost_cli.proofs.top.explained.Goals as goal

pub returns-in-Err-clause-explained : goal.returns-in-Err-clause-explained
returns-in-Err-clause-explained g c =
    left-said (stage (g.F.Shelf.seen c.args.shelf.now) (g.F.Shelf.log c.args.shelf.now))
    (stage (g.F.Shelf.seen c.answered.new.shelf) (g.F.Shelf.log c.answered.new.shelf))
    (g.O.Sink.seen c.args.out.now) (g.O.Sink.seen c.answered.new.out) (g.O.Sink.seen c.say.new.out) _ _ _
    c.in-Err.ensures.stopped c.in-Err.ensures.unput c.say.ensures
