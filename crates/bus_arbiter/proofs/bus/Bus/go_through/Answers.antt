use Rattle.std.proofs.Common.{◌≡◌, ◌+◌, ◌<◌, [], List, refl, sym, ap, ◌∙◌, subst, arith, length}
use Rattle.gr_base.proofs.Counts.{rose_behind}
use Rattle.bus_arbiter.specs.declared.shares.Share.{Share}
use Rattle.bus_arbiter.specs.Prelude.{AllStand, Shared, JoinedOn, share_at}
use Rattle.bus_arbiter.proofs.Alone.{alone-fails, alone-on}
use Rattle.bus_arbiter.proofs.BusSteps.{all-stood}
use Rattle.bus_arbiter.proofs.Pausing.{joined-stays}
use Rattle.bus_arbiter.proofs.Rounding.{joined-fails, joined-first, joined-then, period-more, quiet-late}
use Rattle.bus_arbiter.proofs.Stopping.{joined-stops, turn-stops}
use Rattle.bus_arbiter.proofs.bus.Bus.go_through.Goals as goal

pub periods-init : goal.periods-init
periods-init g c = record {
  plan = refl;
  sound = c.requires.sound;
  fresh = c.requires.fresh;
  stand = subst (λ (b : Shared g.row.B.Denot). AllStand b.plan b.cores) c.self.view_is c.self.invariant.stand;
  all = refl;
  whole = c.requires.whole;
  period = λ some.
      c.from-period.ensures
      ∙ subst (λ (l : List Share). 0 < length l → c.period.result ≡ (share_at l 0).period)
      (ap (λ b. b.plan) c.self.view_is) c.period.ensures.period some;
  some = omega (arith, c.from-period.ensures, c.period.ensures.some);
  small = omega (arith, c.from-period.ensures, c.period.ensures.most);
  near = omega arith;
  whole_periods = (0, omega arith);
  joined =
      joined-first c.args.self.now.cores c.args.cycles
      (λ told. g.W.BusWatch.hears c.args.watch.now told c.args.watch.now)
      (g.met.W.BusWatch.hears_none c.args.watch.now c.requires.whole)
      (all-stood c.args.self.now.plan c.args.self.now.cores c.args.self.now.cores
      (subst (λ (b : Shared g.row.B.Denot). AllStand b.plan b.cores) c.self.view_is c.self.invariant.stand) refl);
  told_before = λ tells. tells;
  count = omega arith;
  count_stays = λ full. full;
  same = g.met.W.BusWatch.same_itself c.args.watch.now;
}

pub skip-base-requires-clause-whole_periods : goal.skip-base-requires-clause-whole_periods
skip-base-requires-clause-whole_periods g c = (
  c.periods.invariant.whole_periods.0 + 1,
  period-more c.periods.invariant.whole_periods.0 c.periods.base c.from-period.result
      c.periods.invariant.whole_periods.1,
)

pub periods-preserved : goal.periods-preserved
periods-preserved g c =
    let some : 0 < length c.args.self.now.plan =
    omega (arith, c.in-Some.ensures.live, c.periods.invariant.all, c.requires.all) in
    let same = c.periods.invariant.period some ∙ ap (λ l. (share_at l 0).period) (sym c.periods.invariant.plan) in
    let round =
    subst (λ x. JoinedOn c.args.self.now.cores c.go_round.new.self.cores [] (c.periods.base + x) c.args.cycles
    (λ told. g.W.BusWatch.hears c.args.watch.now told c.go_round.new.watch)) (sym same)
    (joined-then c.args.self.now.cores c.periods.self.cores c.go_round.new.self.cores c.periods.base _
    c.args.cycles g.W.BusWatch.hears c.args.watch.now c.periods.watch c.go_round.new.watch
    (g.met.W.BusWatch.hears_then c.args.watch.now c.periods.watch c.go_round.new.watch) c.periods.invariant.joined
    c.in-Ok-go_round.ensures.on) in
    record {
      plan = c.skip-base.ensures.plan ∙ c.in-Ok-go_round.ensures.plan ∙ c.periods.invariant.plan;
      sound = c.skip-base.ensures.sound;
      fresh = c.skip-base.ensures.fresh;
      stand = c.skip-base.ensures.stand;
      all = c.skip-base.ensures.all ∙ c.in-Ok-go_round.ensures.all ∙ c.periods.invariant.all;
      whole = c.in-Ok-go_round.ensures.whole;
      period = c.periods.invariant.period;
      some = c.periods.invariant.some;
      small = c.periods.invariant.small;
      near = omega (
        arith,
        c.periods-test.true,
        c.from.ensures,
        c.ranges.cycles.fits,
        c.periods.invariant.small,
        c.skip-base.ensures.most,
      );
      whole_periods = c.skip-base.ensures.whole_periods;
      joined =
          joined-stays c.args.self.now.cores c.go_round.new.self.cores c.skip-base.new.self.cores
          (c.periods.base + c.from-period.result) c.skip-base.result c.args.cycles
          (λ told. g.W.BusWatch.hears c.args.watch.now told c.go_round.new.watch) round c.skip-base.ensures.stay;
      told_before = λ tells. c.periods.invariant.told_before (c.in-Ok-go_round.ensures.told_before tells);
      count = omega (arith, c.periods.invariant.count, c.in-Ok-go_round.ensures.count);
      count_stays = λ full. c.in-Ok-go_round.ensures.count_stays (c.periods.invariant.count_stays full);
      same = g.met.W.BusWatch.same_through c.args.watch.now c.periods.watch c.go_round.new.watch
          c.periods.invariant.same c.in-Ok-go_round.ensures.same;
    }

pub returns-in-Ok-clause-joined : goal.returns-in-Ok-clause-joined
returns-in-Ok-clause-joined g c =
    let stand =
    all-stood c.periods.self.plan c.periods.self.cores c.periods.self.cores c.periods.invariant.stand refl in (
      c.args.cycles,
      joined-then c.args.self.now.cores c.periods.self.cores c.turn.new.self.cores c.periods.base c.args.cycles
          c.args.cycles g.W.BusWatch.hears c.args.watch.now c.periods.watch c.turn.new.watch
          (g.met.W.BusWatch.hears_then c.args.watch.now c.periods.watch c.turn.new.watch) c.periods.invariant.joined
          (alone-on c.periods.self.cores c.in-Some.core c.periods.base c.args.cycles
          (omega (arith, c.periods-test.true, c.from.ensures)) (c.is_alone.ensures c.if-is_alone.true) stand
          c.turn.new.self.cores
          (λ told. g.W.BusWatch.hears c.periods.watch told c.turn.new.watch) c.in-Ok.ensures.turned),
    )

pub returns-in-Ok-clause-quiet : goal.returns-in-Ok-clause-quiet
unfolding returns-in-Ok-clause-joined
returns-in-Ok-clause-quiet g c =
    let on = (returns-in-Ok-clause-joined g c).1 in
    quiet-late c.args.self.now.cores c.turn.new.self.cores on.more c.args.cycles c.args.cycles
    (all-stood c.turn.new.self.plan c.turn.new.self.cores c.turn.new.self.cores c.in-Ok.ensures.stand refl)
    (omega arith) on.joined

pub returns-in-Err-clause-broke : goal.returns-in-Err-clause-broke
returns-in-Err-clause-broke g c =
    let stand =
    all-stood c.periods.self.plan c.periods.self.cores c.periods.self.cores c.periods.invariant.stand refl in
    joined-fails c.args.self.now.cores c.periods.self.cores c.periods.base c.args.cycles
    g.W.BusWatch.hears c.args.watch.now c.periods.watch c.turn.new.watch
    (g.met.W.BusWatch.hears_then c.args.watch.now c.periods.watch c.turn.new.watch)
    (g.W.BusWatch.torn c.turn.new.watch) c.periods.invariant.joined
    (alone-fails c.periods.self.cores c.in-Some.core c.periods.base c.args.cycles
    (omega (arith, c.periods-test.true, c.from.ensures)) (c.is_alone.ensures c.if-is_alone.true) stand
    g.W.BusWatch.hears c.periods.watch c.turn.new.watch (g.W.BusWatch.torn c.turn.new.watch) c.in-Err.ensures.broke)

pub returns-in-Err-go_round-clause-broke : goal.returns-in-Err-go_round-clause-broke
returns-in-Err-go_round-clause-broke g c =
    joined-fails c.args.self.now.cores c.periods.self.cores c.periods.base c.args.cycles
    g.W.BusWatch.hears c.args.watch.now c.periods.watch c.go_round.new.watch
    (g.met.W.BusWatch.hears_then c.args.watch.now c.periods.watch c.go_round.new.watch)
    (g.W.BusWatch.torn c.go_round.new.watch) c.periods.invariant.joined c.in-Err-go_round.ensures.broke

pub returns-clause-quiet : goal.returns-clause-quiet
returns-clause-quiet g c =
    let on = c.periods.invariant.joined in
    quiet-late c.args.self.now.cores c.periods.self.cores on.more c.periods.base c.args.cycles
    (all-stood c.periods.self.plan c.periods.self.cores c.periods.self.cores c.periods.invariant.stand refl)
    (omega (arith, c.periods-test.false, c.from.ensures)) on.joined

pub returns-in-Err-clause-failed : goal.returns-in-Err-clause-failed
returns-in-Err-clause-failed g c =
    rose_behind (g.W.BusWatch.faults c.args.watch.now) (g.W.BusWatch.faults c.periods.watch)
    (g.W.BusWatch.faults c.turn.new.watch) c.periods.invariant.count c.in-Err.ensures.count c.in-Err.ensures.failed

pub returns-in-Err-go_round-clause-failed : goal.returns-in-Err-go_round-clause-failed
returns-in-Err-go_round-clause-failed g c =
    rose_behind (g.W.BusWatch.faults c.args.watch.now) (g.W.BusWatch.faults c.periods.watch)
    (g.W.BusWatch.faults c.go_round.new.watch) c.periods.invariant.count
    c.in-Err-go_round.ensures.count c.in-Err-go_round.ensures.failed

pub returns-in-Err-clause-stopped : goal.returns-in-Err-clause-stopped
returns-in-Err-clause-stopped g c =
    joined-stops c.args.self.now.cores c.periods.self.cores c.turn.new.self.cores c.periods.base c.args.cycles _
    c.periods.invariant.joined
    (turn-stops c.periods.self.cores c.turn.new.self.cores c.periods.base c.args.cycles c.in-Some.core c.args.cycles
    (omega arith) c.in-Err.ensures.stopped)

pub returns-in-Err-go_round-clause-stopped : goal.returns-in-Err-go_round-clause-stopped
returns-in-Err-go_round-clause-stopped g c =
    joined-stops c.args.self.now.cores c.periods.self.cores c.go_round.new.self.cores c.periods.base c.args.cycles _
    c.periods.invariant.joined c.in-Err-go_round.ensures.stopped
