use Rattle.std.proofs.Common.{◌<◌, length, arith, ◌∙◌}
use Rattle.machine_verbs.proofs.SharedBus.{halts-all, halts-cut, halts-put}
use Rattle.machine_verbs.proofs.bus_run.put_halts.Goals as goal

pub returns-in-Err : goal.returns-in-Err
returns-in-Err g c =
    let cores = c.args.bus.now.cores in
    let within : c.ending.core < length cores =
    omega (arith, c.entered-core-end.ensures.count, c.ending-test.true, c.ending.auto.core-end) in
    halts-cut cores c.ending.core c.halted-halt.result within c.halted-halt.ensures (g.O.Sink.seen c.args.out.now)
    (g.O.Sink.seen c.ending.out) (g.O.Sink.seen c.put_core.new.out) c.ending.invariant.put c.ending.invariant.calm
    c.in-Err.ensures.cut c.in-Err.ensures.failed

pub ending-preserved : goal.ending-preserved
ending-preserved g c =
    let cores = c.args.bus.now.cores in
    let within : c.ending.core < length cores =
    omega (arith, c.entered-core-end.ensures.count, c.ending-test.true, c.ending.auto.core-end) in
    record {
      put = halts-put cores c.ending.core c.halted-halt.result within c.halted-halt.ensures
          (g.O.Sink.seen c.args.out.now).held (g.O.Sink.seen c.ending.out).held (g.O.Sink.seen c.put_core.new.out).held
          c.ending.invariant.put c.in-Ok.ensures.added;
      calm = c.in-Ok.ensures.calm ∙ c.ending.invariant.calm;
      all = halts-all cores c.ending.core c.halted-halt.result within c.halted-halt.ensures c.ending.all
          c.also_halted-all.result c.ending.invariant.all c.also_halted-all.ensures;
    }
