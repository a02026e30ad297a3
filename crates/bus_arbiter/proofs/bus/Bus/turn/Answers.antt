use Rattle.std.proofs.Common.{◌<◌, length, refl, sym, ap, ◌∙◌, subst}
use Rattle.std.specs.Prelude.{slice_set}
use Rattle.std.proofs.lemmas.Bool.{false≢true}
use Rattle.bus_arbiter.proofs.BusSteps.{item-there, live-put, stand-put}
use Rattle.bus_arbiter.proofs.bus.Bus.turn.Goals as goal

pub invariant_of-self : goal.invariant_of-self
invariant_of-self g c =
    let items = c.self.inside.seats.items in
    let there =
    item-there items items c.args.core _ c.index_mut-seat.result.now refl c.index_mut-seat.ensures.value
    (subst (λ l. c.args.core < length l) (sym (ap (λ b. b.cores) c.self.view_is)) c.requires.exists) in
    record {
      stand =
          stand-put c.self.inside.plan items c.args.core c.index_mut-seat.result.now c.run.new.self there
          c.self.invariant.stand c.in-Ok.ensures.object c.in-Ok.ensures.in_range c.in-Ok.ensures.shaped;
      live = λ sound.
          live-put c.self.inside.plan items c.args.core c.index_mut-seat.result.now c.run.new.self there
          (c.self.invariant.live sound) c.in-Ok.ensures.live;
      begins = λ fresh. absurd (false≢true (sym c.requires.fresh ∙ sym (ap (λ b. b.fresh) c.self.view_is) ∙ fresh));
    }

pub invariant_of-self-in-Err : goal.invariant_of-self-in-Err
invariant_of-self-in-Err g c =
    let items = c.self.inside.seats.items in
    let there =
    item-there items items c.args.core _ c.index_mut-seat.result.now refl c.index_mut-seat.ensures.value
    (subst (λ l. c.args.core < length l) (sym (ap (λ b. b.cores) c.self.view_is)) c.requires.exists) in
    record {
      stand =
          stand-put c.self.inside.plan items c.args.core c.index_mut-seat.result.now c.run.new.self there
          c.self.invariant.stand c.in-Err.ensures.object c.in-Err.ensures.in_range c.in-Err.ensures.shaped;
      live = λ sound. absurd (false≢true sound);
      begins = λ fresh. absurd (false≢true (sym c.requires.fresh ∙ sym (ap (λ b. b.fresh) c.self.view_is) ∙ fresh));
    }

pub returns-in-Ok-clause-turned : goal.returns-in-Ok-clause-turned
returns-in-Ok-clause-turned g c =
    let same = ap (λ b. b.cores) c.self.view_is in
    record {
      was = c.index_mut-seat.result.now;
      now = c.run.new.self;
      there =
          item-there c.self.inside.seats.items c.args.self.now.cores c.args.core _ c.index_mut-seat.result.now same
          c.index_mut-seat.ensures.value c.requires.exists;
      put = ap (λ l. slice_set l c.args.core c.run.new.self) same;
      left = c.in-Ok.ensures.left;
      told = c.in-Ok.ensures.heard;
    }

pub returns-in-Err-clause-broke : goal.returns-in-Err-clause-broke
returns-in-Err-clause-broke g c =
    let same = ap (λ b. b.cores) c.self.view_is in (
      c.index_mut-seat.result.now,
      item-there c.self.inside.seats.items c.args.self.now.cores c.args.core _ c.index_mut-seat.result.now same
          c.index_mut-seat.ensures.value c.requires.exists,
      c.in-Err.ensures.broke,
    )

pub returns-in-Ok-clause-stand : goal.returns-in-Ok-clause-stand
returns-in-Ok-clause-stand g c = (invariant_of-self g c).stand

pub returns-in-Err-clause-stand : goal.returns-in-Err-clause-stand
returns-in-Err-clause-stand g c = (invariant_of-self-in-Err g c).stand

pub returns-in-Err-clause-stopped : goal.returns-in-Err-clause-stopped
returns-in-Err-clause-stopped g c =
    let same = ap (λ b. b.cores) c.self.view_is in
    record {
      was = c.index_mut-seat.result.now;
      now = c.run.new.self;
      there =
          item-there c.self.inside.seats.items c.args.self.now.cores c.args.core _ c.index_mut-seat.result.now same
          c.index_mut-seat.ensures.value c.requires.exists;
      put = ap (λ l. slice_set l c.args.core c.run.new.self) same;
      way = c.in-Err.ensures.way;
    }
