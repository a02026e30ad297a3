use Rattle.std.proofs.Common.{sym, subst, ap, ◌∙◌}
use Rattle.src_tree.specs.Prelude.{source_of}
use Rattle.resident_alloc.specs.Prelude.{resident_plan}
use Rattle.resident_alloc.proofs.SoundPlan.{resident_sound}
use Rattle.spread_alloc.specs.Prelude.{spread_plan, PlanFits}
use Rattle.spread_alloc.proofs.FitsSpread.{sound_fits}
use Rattle.compiled_objects.proofs.FastPlans.{fast-is}
use Rattle.compiled_objects.proofs.plans.fast_plan.Goals as goal

pub spread-requires-clause-fits : goal.spread-requires-clause-fits
spread-requires-clause-fits c =
    let p = source_of c.args.p.now in
    let w = c.args.w in
    subst PlanFits (sym c.in_ok-plan.ensures.plan)
    (sound_fits p w (resident_plan p w)
    (resident_sound p w c.requires.within c.requires.block_log c.in_ok-plan.ensures.fits))

pub returns-clause-plan : goal.returns-clause-plan
returns-clause-plan c =
    let p = source_of c.args.p.now in
    let w = c.args.w in
    c.in_ok-spread.ensures.plan ∙ ap (spread_plan w) c.in_ok-plan.ensures.plan ∙ fast-is p w
