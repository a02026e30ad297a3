use Rattle.std.proofs.Common.{List, []}
use Rattle.lt_isa.specs.Prelude.{Stamped}
use Rattle.bus_arbiter.specs.Prelude.{traces_to, IsJoined, joined_of}
use Rattle.bus_arbiter.proofs.CoresJoined.{cores-joined}
use Rattle.call_steps.specs.Prelude.{transfer_lines}
use Rattle.machine_verbs.proofs.BusWatches.{transfers_cut}
use Rattle.machine_verbs.proofs.PutLines.{lines_put}
use Rattle.machine_verbs.proofs.bus_run.run_watched.Goals as goal

pub returns-in-Ok-clause-put : goal.returns-in-Ok-clause-put
returns-in-Ok-clause-put g c =
    let e = c.in-Ok.ensures in
    let before = (g.O.Sink.seen c.args.watch.now.out.now).held in
    let now = (g.O.Sink.seen c.run.new.watch.out.now).held in
    record {
      joined = e.joined.0;
      joins = e.joined.1;
      put = (
        lines_put before now c.args.watch.now.start c.args.watch.now.stop c.run.new.watch.stop
            (transfer_lines e.joined.0) (rw c.requires.whole at c.requires.nothing) e.same.2
            (rw (← e.same.1, e.whole) at e.joined.2 [] c.requires.nothing),
        (e.same.3 e.whole).1,
      );
    }

pub returns-in-Err-clause-put : goal.returns-in-Err-clause-put
returns-in-Err-clause-put g c =
    let e = c.in-Err.ensures in
    let traces : List (List Stamped) = traces_to c.args.bus.now.cores c.args.cycles in
    let worked : IsJoined traces (joined_of traces) =
    cores-joined c.args.bus.now.plan c.args.bus.now.cores c.entered.ensures.plan c.requires.all c.entered.ensures.stand
    c.args.cycles in
    let broke = e.broke (joined_of traces) worked in
    record {
      joined = joined_of traces;
      joins = worked;
      put = (
        e.failed,
        transfers_cut (g.O.Sink.seen c.args.watch.now.out.now).held (g.O.Sink.seen c.run.new.watch.out.now).held
            c.args.watch.now.start c.args.watch.now.stop c.run.new.watch.stop (joined_of traces)
            broke.told broke.next broke.rest broke.front
            (rw c.requires.whole at c.requires.nothing) e.same.2
            (rw (← e.same.1, e.whole, c.requires.whole) at broke.heard) broke.at,
      );
    }
