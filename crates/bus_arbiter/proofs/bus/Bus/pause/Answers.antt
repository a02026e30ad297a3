use Rattle.std.proofs.Common.{◌<◌, length, refl, sym, ap, ◌∙◌, subst}
use Rattle.std.specs.Prelude.{slice_set}
use Rattle.std.proofs.lemmas.Bool.{false≢true}
use Rattle.bus_arbiter.proofs.BusSteps.{item-there, live-put, stand-put}
use Rattle.bus_arbiter.proofs.bus.Bus.pause.Goals as goal

pub invariant_of-self : goal.invariant_of-self
invariant_of-self g c =
    let items = c.self.inside.seats.items in
    let there =
    item-there items items c.args.core _ c.index_mut-seat.result.now refl c.index_mut-seat.ensures.value
    (subst (λ l. c.args.core < length l) (sym (ap (λ b. b.cores) c.self.view_is)) c.requires.exists) in
    record {
      stand =
          stand-put c.self.inside.plan items c.args.core c.index_mut-seat.result.now c.pause.new.self there
          c.self.invariant.stand c.pause.ensures.object c.pause.ensures.in_range c.pause.ensures.shaped;
      live = λ sound.
          live-put c.self.inside.plan items c.args.core c.index_mut-seat.result.now c.pause.new.self there
          (c.self.invariant.live sound) c.pause.ensures.live;
      begins = λ fresh. absurd (false≢true (sym c.requires.fresh ∙ sym (ap (λ b. b.fresh) c.self.view_is) ∙ fresh));
    }

pub returns-clause-stand : goal.returns-clause-stand
returns-clause-stand g c = (invariant_of-self g c).stand

pub returns-clause-paused : goal.returns-clause-paused
returns-clause-paused g c =
    let same = ap (λ b. b.cores) c.self.view_is in
    record {
      was = c.index_mut-seat.result.now;
      now = c.pause.new.self;
      there =
          item-there c.self.inside.seats.items c.args.self.now.cores c.args.core _ c.index_mut-seat.result.now same
          c.index_mut-seat.ensures.value c.requires.exists;
      put = ap (λ l. slice_set l c.args.core c.pause.new.self) same;
      left = c.pause.ensures.left;
      quiet = c.pause.ensures.quiet c.args.core;
      late = c.pause.ensures.late c.args.core;
    }
