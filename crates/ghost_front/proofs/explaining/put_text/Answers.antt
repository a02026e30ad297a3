use Rattle.ghost_front.proofs.Saying.{gains_all}
use Rattle.ghost_front.proofs.explaining.put_text.Goals as goal

pub returns : goal.returns
returns g c =
    gains_all (g.E.Sink.seen c.args.errors.now) (g.E.Sink.seen c.put.new.self) (g.E.Sink.seen c.flush.new.self)
    c.args.text.now c.in-Ok.ensures.added c.flush.ensures.nothing_added
