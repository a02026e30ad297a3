use Rattle.std.proofs.Common.{rules}
use Rattle.bus_arbiter.specs.Prelude.{traces_to}
use Rattle.machine_verbs.specs.Prelude.{halts_of}
use Rattle.machine_verbs.proofs.SharedBus.{left-halts, shared-cut, shared-put}
use Rattle.machine_verbs.proofs.bus_run.put_bus.Goals as goal

pub returns-then-put_joined : goal.returns-then-put_joined
returns-then-put_joined g c =
    let before = c.args.bus.now.cores in
    let after = c.put_joined.new.bus.cores in
    shared-put (g.O.Sink.seen c.args.out.now) (g.O.Sink.seen c.put_joined.new.out) (g.O.Sink.seen c.put_halts.new.out)
    (traces_to before c.args.cycles) (halts_of after) c.put_halts.result c.if-put_joined.ensures.put
    (left-halts c.args.cycles before after (c.if-put_joined.ensures.left (search rules))
    (c.entered.ensures.begins c.requires.fresh)) c.put_halts.ensures

pub returns : goal.returns
returns g c =
    shared-cut (g.O.Sink.seen c.args.out.now) (g.O.Sink.seen c.put_joined.new.out)
    (traces_to c.args.bus.now.cores c.args.cycles) c.if-put_joined.ensures.put
