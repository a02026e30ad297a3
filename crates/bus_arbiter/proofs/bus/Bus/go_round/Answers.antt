use Rattle.std.proofs.Common.{◌+◌, ap, ◌∙◌, subst, arith, length}
use Rattle.gr_base.proofs.Counts.{rose_behind}
use Rattle.bus_arbiter.specs.Prelude.{AllStand}
use Rattle.bus_arbiter.proofs.Plays.{length-put}
use Rattle.bus_arbiter.proofs.Rounding.{fails-then, goes-then, round-between, round-ends, round-fails, round-slot, round-within}
use Rattle.bus_arbiter.proofs.Stopping.{stops-then, turn-stops}
use Rattle.bus_arbiter.proofs.bus.Bus.go_round.Goals as goal

pub slots-preserved : goal.slots-preserved
slots-preserved g c =
    let plan = c.args.self.now.plan in
    let same = c.slots.invariant.plan in
    let cores = c.slots.self.cores in
    let stand = subst (λ l. AllStand l cores) c.slots.invariant.plan c.slots.invariant.stand in
    record {
      plan = c.in-Ok.ensures.plan ∙ c.slots.invariant.plan;
      sound = c.in-Ok.ensures.sound;
      fresh = c.in-Ok.ensures.fresh;
      stand = c.in-Ok.ensures.stand;
      all =
          ap length c.in-Ok.ensures.turned.put
          ∙ length-put cores c.in-Some.core c.in-Ok.ensures.turned.now ∙ c.slots.invariant.all;
      whole = c.in-Ok.ensures.whole;
      between =
          round-between plan c.slots.self.plan same c.next.ensures.plan cores stand c.args.base c.args.cycles
          c.requires.whole_periods c.slots.from c.slots.invariant.between c.in-Some.core c.in-Some.ensures.next
          c.closes-closes.result c.from.result c.earlier-to.result c.closes-closes.ensures c.from.ensures c.earlier-to.ensures
          c.turn.new.self.cores _ c.in-Ok.ensures.turned;
      within =
          round-within plan c.slots.self.plan same c.next.ensures.plan cores stand c.args.base c.args.cycles
          c.requires.whole_periods c.slots.from c.slots.invariant.between c.in-Some.core c.in-Some.ensures.next
          c.closes-closes.result c.from.result c.earlier-to.result c.closes-closes.ensures c.from.ensures c.earlier-to.ensures;
      on =
          goes-then c.args.self.now.cores cores c.turn.new.self.cores c.args.base (c.args.base + c.slots.from)
          (c.args.base + c.closes-closes.result) c.args.cycles g.W.BusWatch.hears c.args.watch.now c.slots.watch
          c.turn.new.watch (g.met.W.BusWatch.hears_then c.args.watch.now c.slots.watch c.turn.new.watch)
          c.slots.invariant.on
          (round-slot plan c.slots.self.plan same c.next.ensures.plan cores stand c.args.base c.args.cycles
          c.requires.whole_periods c.slots.from c.slots.invariant.between c.in-Some.core c.in-Some.ensures.next
          c.closes-closes.result c.from.result c.earlier-to.result c.closes-closes.ensures c.from.ensures c.earlier-to.ensures
          c.turn.new.self.cores _ c.in-Ok.ensures.turned);
      told_before = λ tells. c.slots.invariant.told_before (c.in-Ok.ensures.told_before tells);
      count = omega (arith, c.slots.invariant.count, c.in-Ok.ensures.count);
      count_stays = λ full. c.in-Ok.ensures.count_stays (c.slots.invariant.count_stays full);
      same = g.met.W.BusWatch.same_through c.args.watch.now c.slots.watch c.turn.new.watch
          c.slots.invariant.same c.in-Ok.ensures.same;
    }

pub returns-in-Err-clause-broke : goal.returns-in-Err-clause-broke
returns-in-Err-clause-broke g c =
    let plan = c.args.self.now.plan in
    let same = c.slots.invariant.plan in
    let cores = c.slots.self.cores in
    let stand = subst (λ l. AllStand l cores) c.slots.invariant.plan c.slots.invariant.stand in
    fails-then c.args.self.now.cores cores c.args.base (c.args.base + c.slots.from) c.args.cycles
    g.W.BusWatch.hears c.args.watch.now c.slots.watch c.turn.new.watch
    (g.met.W.BusWatch.hears_then c.args.watch.now c.slots.watch c.turn.new.watch)
    (g.W.BusWatch.torn c.turn.new.watch) c.slots.invariant.on
    (round-fails plan c.slots.self.plan same c.next.ensures.plan cores stand c.args.base c.args.cycles
    c.requires.whole_periods c.slots.from c.slots.invariant.between c.in-Some.core c.in-Some.ensures.next
    c.closes-closes.result c.from.result c.earlier-to.result c.closes-closes.ensures c.from.ensures c.earlier-to.ensures
    g.W.BusWatch.hears c.slots.watch c.turn.new.watch (g.W.BusWatch.torn c.turn.new.watch) c.in-Err.ensures.broke)

pub returns-clause-on : goal.returns-clause-on
returns-clause-on g c =
    let plan = c.args.self.now.plan in
    let same = c.slots.invariant.plan in
    let cores = c.slots.self.cores in
    let stand = subst (λ l. AllStand l cores) c.slots.invariant.plan c.slots.invariant.stand in
    round-ends plan c.slots.self.plan same c.next.ensures.plan cores stand c.args.base c.args.cycles
    c.requires.whole_periods c.slots.from c.slots.invariant.between c.in_default.ensures.none
    c.slots.invariant.within c.args.self.now.cores c.args.base _ c.slots.invariant.on

pub returns-in-Err-clause-failed : goal.returns-in-Err-clause-failed
returns-in-Err-clause-failed g c =
    rose_behind (g.W.BusWatch.faults c.args.watch.now) (g.W.BusWatch.faults c.slots.watch)
    (g.W.BusWatch.faults c.turn.new.watch) c.slots.invariant.count c.in-Err.ensures.count c.in-Err.ensures.failed

pub returns-in-Err-clause-stopped : goal.returns-in-Err-clause-stopped
returns-in-Err-clause-stopped g c =
    stops-then c.args.self.now.cores c.slots.self.cores c.turn.new.self.cores c.args.base (c.args.base + c.slots.from)
    c.args.cycles _ c.slots.invariant.on
    (turn-stops c.slots.self.cores c.turn.new.self.cores (c.args.base + c.slots.from) c.args.cycles c.in-Some.core
    c.earlier-to.result (omega (arith, c.earlier-to.ensures)) c.in-Err.ensures.stopped)
