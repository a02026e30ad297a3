use Rattle.std.proofs.Common.{◌∙◌, [], arith}
use Rattle.bus_arbiter.proofs.Finishing.{finish-all, finish-heard, finish-never, finish-next}
use Rattle.bus_arbiter.proofs.bus.Bus.finish.Goals as goal

pub returns-in-Err-clause-never : goal.returns-in-Err-clause-never
returns-in-Err-clause-never g c =
    absurd
    (finish-never c.args.self.now.cores c.finishing.self.cores c.finishing.self.cores c.args.cycles c.finishing.core
    c.requires.quiet c.finishing.invariant.finished g.W.BusWatch.hears c.finishing.watch c.turn.new.watch
    (g.W.BusWatch.torn c.turn.new.watch) c.in-Err.ensures.broke)

pub finishing-preserved : goal.finishing-preserved
finishing-preserved g c = record {
  plan = c.in-Ok.ensures.plan ∙ c.finishing.invariant.plan;
  sound = c.in-Ok.ensures.sound;
  fresh = c.in-Ok.ensures.fresh;
  whole = c.in-Ok.ensures.whole;
  finished =
      finish-next c.args.self.now.cores c.finishing.self.cores c.turn.new.self.cores c.args.cycles c.finishing.core
      c.requires.quiet c.finishing.invariant.finished _ c.in-Ok.ensures.turned;
  heard =
      g.met.W.BusWatch.hears_then c.args.watch.now c.finishing.watch c.turn.new.watch [] []
      c.finishing.invariant.heard
      (finish-heard c.args.self.now.cores c.finishing.self.cores c.turn.new.self.cores c.args.cycles c.finishing.core
      c.requires.quiet c.finishing.invariant.finished
      (λ told. g.W.BusWatch.hears c.finishing.watch told c.turn.new.watch) c.in-Ok.ensures.turned);
  told_before = λ tells. c.finishing.invariant.told_before (c.in-Ok.ensures.told_before tells);
  count = omega (arith, c.finishing.invariant.count, c.in-Ok.ensures.count);
  count_stays = λ full. c.in-Ok.ensures.count_stays (c.finishing.invariant.count_stays full);
  same = g.met.W.BusWatch.same_through c.args.watch.now c.finishing.watch c.turn.new.watch
      c.finishing.invariant.same c.in-Ok.ensures.same;
}

pub returns-clause-left : goal.returns-clause-left
returns-clause-left g c =
    finish-all c.args.self.now.cores c.finishing.self.cores c.args.cycles c.finishing.core
    (omega (arith, c.finishing-test.false, c.entered-core-end.ensures)) c.finishing.invariant.finished
