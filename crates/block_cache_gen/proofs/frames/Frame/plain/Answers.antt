use Rattle.std.proofs.Common.{false, [], ap, sym, subst}
use Rattle.src_tree.specs.Prelude.{source_of}
use Rattle.scratch_alloc.specs.Prelude.{IsSoundPlan, plan_with}
use Rattle.held_registers.proofs.Sound.{nothing-sound}
use Rattle.block_cache_gen.specs.Prelude.{setting_for}
use Rattle.block_cache_gen.proofs.frames.Frame.plain.Goals as goal

pub returns : goal.returns
returns c =
    let f = c.args.self.now in
    let p = source_of f.program.now in
    let profile = f.profile.now in
    record {
      setting =
          ap (λ pins. setting_for p (plan_with f.places.now f.slots.now pins) profile false [])
          c.scalar_pins.ensures;
      frame = λ is. record {
        typed = is.typed;
        within = is.within;
        plan =
            subst (λ pins. IsSoundPlan p profile.block_log (plan_with f.places.now f.slots.now pins))
            (sym c.scalar_pins.ensures) is.plan;
        profile = is.profile;
        held = nothing-sound p.decls;
      };
    }
