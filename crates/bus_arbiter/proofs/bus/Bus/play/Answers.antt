use Rattle.std.proofs.Common.{List, refl, sym, ap, ◌∙◌, subst, arith}
use Rattle.gr_base.proofs.Counts.{rose_behind}
use Rattle.bus_arbiter.specs.Prelude.{Transfer}
use Rattle.bus_arbiter.proofs.BusSteps.{all-stood}
use Rattle.bus_arbiter.proofs.Plays.{PlayedSoFar, plays-fail_at, plays-first, plays-next_at, plays-stop_at}
use Rattle.bus_arbiter.proofs.bus.Bus.play.Goals as goal

pub playing-init : goal.playing-init
playing-init g c =
    let cores = ap (λ b. b.cores) c.self.view_is in
    let turns = c.args.turns.now in
    let heard = λ (told : List Transfer). g.W.BusWatch.hears c.args.watch.now told c.args.watch.now in
    record {
      plan = ap (λ b. b.plan) c.self.view_is;
      sound = ap (λ b. b.sound) c.self.view_is ∙ c.requires.sound;
      fresh = refl;
      whole = c.requires.whole;
      played =
          subst (λ l. PlayedSoFar c.args.self.now.cores l turns turns heard) (sym cores)
          (plays-first c.args.self.now.cores turns heard
          (g.met.W.BusWatch.hears_none c.args.watch.now c.requires.whole));
      told_before = λ tells. tells;
      count = omega arith;
      count_stays = λ full. full;
      same = g.met.W.BusWatch.same_itself c.args.watch.now;
    }

pub playing-preserved : goal.playing-preserved
playing-preserved g c =
    let stand = all-stood c.self.inside.plan c.self.inside.seats.items c.args.self.now.cores c.self.invariant.stand
    (ap (λ b. b.cores) c.self.view_is) in
    record {
      plan = c.in-Ok.ensures.plan ∙ c.playing.invariant.plan;
      sound = c.in-Ok.ensures.sound;
      fresh = c.in-Ok.ensures.fresh;
      whole = c.in-Ok.ensures.whole;
      played =
          plays-next_at c.args.self.now.cores c.playing.self.cores c.turn.new.self.cores c.args.turns.now
          c.playing.turn-index _ g.W.BusWatch.hears c.args.watch.now c.playing.watch c.turn.new.watch
          (g.met.W.BusWatch.hears_then c.args.watch.now c.playing.watch c.turn.new.watch) stand c.playing-test.true
          c.playing.invariant.played c.in-Ok.ensures.turned;
      told_before = λ tells. c.playing.invariant.told_before (c.in-Ok.ensures.told_before tells);
      count = omega (arith, c.playing.invariant.count, c.in-Ok.ensures.count);
      count_stays = λ full. c.in-Ok.ensures.count_stays (c.playing.invariant.count_stays full);
      same = g.met.W.BusWatch.same_through c.args.watch.now c.playing.watch c.turn.new.watch
          c.playing.invariant.same c.in-Ok.ensures.same;
    }

pub returns-in-Err-clause-broke : goal.returns-in-Err-clause-broke
returns-in-Err-clause-broke g c =
    let stand = all-stood c.self.inside.plan c.self.inside.seats.items c.args.self.now.cores c.self.invariant.stand
    (ap (λ b. b.cores) c.self.view_is) in
    plays-fail_at c.args.self.now.cores c.playing.self.cores c.args.turns.now
    c.playing.turn-index _ g.W.BusWatch.hears c.args.watch.now c.playing.watch c.turn.new.watch
    (g.met.W.BusWatch.hears_then c.args.watch.now c.playing.watch c.turn.new.watch)
    (g.W.BusWatch.torn c.turn.new.watch) stand c.playing-test.true c.playing.invariant.played c.in-Err.ensures.broke

pub returns-in-Err-clause-failed : goal.returns-in-Err-clause-failed
returns-in-Err-clause-failed g c =
    rose_behind (g.W.BusWatch.faults c.args.watch.now) (g.W.BusWatch.faults c.playing.watch)
    (g.W.BusWatch.faults c.turn.new.watch) c.playing.invariant.count c.in-Err.ensures.count c.in-Err.ensures.failed

pub returns-in-Err-clause-stopped : goal.returns-in-Err-clause-stopped
returns-in-Err-clause-stopped g c =
    let stand = all-stood c.self.inside.plan c.self.inside.seats.items c.args.self.now.cores c.self.invariant.stand
    (ap (λ b. b.cores) c.self.view_is) in
    plays-stop_at c.args.self.now.cores c.playing.self.cores c.turn.new.self.cores c.args.turns.now
    c.playing.turn-index _ (λ told. g.W.BusWatch.hears c.args.watch.now told c.playing.watch)
    stand c.playing-test.true c.playing.invariant.played c.in-Err.ensures.stopped
