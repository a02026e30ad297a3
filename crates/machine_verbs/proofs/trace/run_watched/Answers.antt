use Rattle.std.proofs.Common.{List, []}
use Rattle.processor.specs.Prelude.{WatcherTold, run_shown}
use Rattle.machine_verbs.specs.Prelude.{kept}
use Rattle.machine_verbs.proofs.Watches.{events_put, events_cut}
use Rattle.machine_verbs.proofs.trace.run_watched.Goals as goal

pub returns-in-Ok-clause-put : goal.returns-in-Ok-clause-put
returns-in-Ok-clause-put g c =
    let e = c.in-Ok.ensures in
    let shown : List WatcherTold =
    run_shown g.B.Bank.shows c.args.machine.now.object c.args.machine.now.state c.args.machine.now.orams
    c.args.cycles in (
      e.end,
      events_put (g.O.Sink.seen c.args.watch.now.out.now).held (g.O.Sink.seen c.run.new.watch.out.now).held
          c.args.watch.now.start c.args.watch.now.stop c.run.new.watch.stop (kept c.args.watch.now.paths shown)
          (rw c.requires.whole at c.requires.nothing) e.same.2
          (rw (← e.same.1, ← e.same.4, e.whole) at e.heard [] c.requires.nothing),
      (e.same.3 e.whole).1,
    )

pub returns-in-Err-clause-put : goal.returns-in-Err-clause-put
returns-in-Err-clause-put g c =
    let e = c.in-Err.ensures in
    let broke = e.broke_off.broke in (
      e.failed,
      events_cut c.args.watch.now.paths (g.O.Sink.seen c.args.watch.now.out.now).held
          (g.O.Sink.seen c.run.new.watch.out.now).held c.args.watch.now.start c.args.watch.now.stop
          c.run.new.watch.stop _ broke.told broke.next broke.rest broke.front
          (rw c.requires.whole at c.requires.nothing) e.same.2
          (rw (← e.same.1, ← e.same.4, e.whole, c.requires.whole) at broke.heard) (rw (← e.same.4) at broke.at),
    )
