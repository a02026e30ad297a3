use Rattle.std.proofs.Common.{refl, ◌∙◌, arith}
use Rattle.bus_arbiter.proofs.BusSteps.{all-stood}
use Rattle.bus_arbiter.proofs.Pausing.{none-lower, none-paused, pause-count, pause-joined, stay-then}
use Rattle.bus_arbiter.proofs.bus.Bus.pause_all.Goals as goal

pub pausing-init : goal.pausing-init
pausing-init g c = record {
  plan = refl;
  sound = c.requires.sound;
  fresh = c.requires.fresh;
  stand = c.requires.stand;
  all = refl;
  most = omega (arith, c.from-soonest.ensures);
  stay = λ first told at so_far. so_far;
  none = λ k d less here t found. absurd (omega (arith, less));
}

pub pausing-preserved : goal.pausing-preserved
pausing-preserved g c =
    let between = c.pausing.self.cores in
    let after = c.pause-start.new.self.cores in
    let paused = c.pause-start.ensures.paused in
    let stand = all-stood c.pausing.self.plan between between c.pausing.invariant.stand refl in
    record {
      plan = c.pause-start.ensures.plan ∙ c.pausing.invariant.plan;
      sound = c.pause-start.ensures.sound;
      fresh = c.pause-start.ensures.fresh;
      stand = c.pause-start.ensures.stand;
      all = pause-count between after c.pausing.core c.args.cycles c.pause-start.result paused ∙ c.pausing.invariant.all;
      most = omega (arith, c.min-soonest.ensures, c.pausing.invariant.most);
      stay =
          stay-then c.args.self.now.cores between after c.args.cycles c.pausing.invariant.stay
          (pause-joined between after c.pausing.core c.args.cycles c.pause-start.result paused stand);
      none =
          none-paused between after c.pausing.core c.args.cycles c.pause-start.result paused c.pausing.core c.min-soonest.result
          (omega (arith, c.min-soonest.ensures))
          (none-lower between c.pausing.core c.args.cycles c.pausing.soonest c.min-soonest.result
          (omega (arith, c.min-soonest.ensures)) c.pausing.invariant.none) refl;
    }

pub returns-clause-none : goal.returns-clause-none
returns-clause-none g c = λ k d less here t found.
    c.pausing.invariant.none k d
    (omega (arith, less, c.pausing-test.false, c.entered-core-end.ensures, c.pausing.invariant.all)) here t found
