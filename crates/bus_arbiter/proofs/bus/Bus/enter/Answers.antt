use Rattle.std.proofs.Common.{◌≡◌, ◌<◌, length, None, refl, sym, subst}
use Rattle.bus_arbiter.specs.Prelude.{AllStand, AreLive, Core, NoneHalted, Shared, Stands, share_at, share_of}
use Rattle.bus_arbiter.proofs.BusSteps.{begins-more, live-more, stand-more}
use Rattle.bus_arbiter.proofs.bus.Bus.enter.Goals as goal

pub invariant_of-self : goal.invariant_of-self
invariant_of-self g c =
    let same = c.in_err-push.ensures.items in
    record {
      stand = subst (AllStand c.self.inside.plan) (sym same) c.self.invariant.stand;
      live = λ sound. subst AreLive (sym same) (c.self.invariant.live sound);
      begins = λ fresh. subst NoneHalted (sym same) (c.self.invariant.begins fresh);
    }

pub invariant_of-self-2 : goal.invariant_of-self-2
invariant_of-self-2 g c =
    let same = c.in_ok-push.ensures.items in
    let plan = c.self.inside.plan in
    let cores = c.self.inside.seats.items in
    let x : Core g.row.B.Denot = record { machine = c.args.machine; halted = None } in
    let stands : Stands x (share_at plan (length cores)) = record {
      in_range = c.cycle.ensures.in_range;
      shaped = c.cycle.ensures.shaped;
      share =
          subst (λ (b : Shared g.row.B.Denot). share_of c.args.machine.object ≡ share_at b.plan (length b.cores))
          (sym c.self.view_is) c.requires.share;
    } in
    let room =
    subst (λ (b : Shared g.row.B.Denot). length b.cores < length b.plan) (sym c.self.view_is) c.requires.room in
    record {
      stand = subst (AllStand plan) (sym same) (stand-more plan cores x c.self.invariant.stand room stands);
      live = λ sound.
          subst AreLive (sym same) (live-more plan cores x (c.self.invariant.live sound) c.requires.live);
      begins = λ fresh. subst NoneHalted (sym same) (begins-more plan cores x (c.self.invariant.begins fresh) refl);
    }
