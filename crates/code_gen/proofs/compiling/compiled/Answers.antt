use Rattle.std.proofs.Common.{subst, sym}
use Rattle.src_tree.specs.Prelude.{source_of}
use Rattle.scratch_alloc.specs.Prelude.{IsSoundPlan}
use Rattle.scratch_alloc.proofs.StandardPlan.{standard_sound_at}
use Rattle.code_gen.proofs.Assembled.{plan-standard}
use Rattle.code_gen.proofs.compiling.compiled.Goals as goal

pub planned-requires-clause-plan : goal.planned-requires-clause-plan
planned-requires-clause-plan c =
    let p = source_of c.args.program.now in
    let w = c.args.p.now.block_log in
    subst (IsSoundPlan p w)
    (sym (plan-standard p w c.args.places.now (record { plan = c.in_ok-plan.plan; pins = c.scalar_pins-pins.result })
    c.requires.places c.in_ok-plan.ensures.slots c.scalar_pins-pins.ensures))
    (standard_sound_at p w c.requires.within c.requires.fits)
