use Rattle.std.proofs.Common.{◌+◌, ◌*◌, ◌≤◌, true, length, rules, sym, subst, arith}
use Rattle.src_tree.specs.Prelude.{IsWithinLimits, source_of, IsTyped}
use Rattle.scratch_alloc.specs.Prelude.{IsSoundPlan}
use Rattle.source_folding.specs.Prelude.{folded_source, BlockNumbersFit}
use Rattle.source_folding.proofs.FoldedPrograms.{folded-source_typed, folded-within}
use Rattle.compiled_objects.specs.Prelude.{fast_plan, held_for}
use Rattle.code_gen.specs.Prelude.{IsMadeOf}
use Rattle.code_gen.proofs.Assembled.{CompilePromises, made-promises}
use Rattle.compiled_objects.proofs.FastPlans.{fast-sound, fast-secret_slot}
use Rattle.code_gen.proofs.HeldNumbers.{held_for-sound, places-fit}
use Rattle.code_gen.proofs.FoldedPlans.{folded-sound, folded-implements, folded-laid, folded-short}
use Rattle.code_gen.proofs.compiling.compile_fast.Goals as goal

pub planned_folded-requires-clause-plan : goal.planned_folded-requires-clause-plan
planned_folded-requires-clause-plan c =
    let p = c.program-program in
    let w = c.args.p.now.block_log in
    let limits = subst (λ q. IsWithinLimits (source_of q)) (sym p.ensures.program) p.ensures.within in
    subst (IsSoundPlan (source_of p.result.now) w) (sym c.in-Ok.ensures.plan)
    (fast-sound (source_of p.result.now) w limits c.requires.profile.block_log c.in-Ok.ensures.fits)

pub returns-in-Ok-planned_folded : goal.returns-in-Ok-planned_folded
returns-in-Ok-planned_folded c =
    let p = c.program-program in
    let w = c.args.p.now.block_log in
    let source = source_of p.result.now in
    let places = (fast_plan source w).places in
    let held = held_for (folded_source source) places in
    let limits = subst (λ q. IsWithinLimits (source_of q)) (sym p.ensures.program) p.ensures.within in
    let typed = subst (λ q. IsTyped (source_of q)) (sym p.ensures.program) p.ensures.typed in
    let sound = fast-sound source w limits c.requires.profile.block_log c.in-Ok.ensures.fits in
    let holds = held_for-sound (folded_source source) places c.in-Ok-planned_folded.ensures.words
    (places-fit source w (fast_plan source w) limits sound c.requires.profile.block_log.1) in
    let object = c.in-Ok-planned_folded.object in
    let made = subst (λ plan. IsMadeOf (folded_source source) plan c.args.p.now true
    (held_for (folded_source source) plan.places) c.args.l.now object)
    c.in-Ok.ensures.plan c.in-Ok-planned_folded.ensures.made in
    let numbers = subst (λ q. BlockNumbersFit (source_of q).body) p.ensures.program
    c.in-Ok-planned_folded.ensures.numbers in
    let layout = subst (λ q. IsMadeOf (folded_source (source_of q)) (fast_plan (source_of q) w) c.args.p.now true
    (held_for (folded_source (source_of q)) (fast_plan (source_of q) w).places) c.args.l.now object) p.ensures.program made in
    let h = subst (λ q. CompilePromises (folded_source (source_of q)) (fast_plan (source_of q) w) c.args.p.now true
    (held_for (folded_source (source_of q)) (fast_plan (source_of q) w).places) c.args.l.now object)
    p.ensures.program
    (made-promises (folded_source source) (fast_plan source w) c.args.p.now true held c.args.l.now
    (folded-source_typed source typed) (folded-within source limits)
    (folded-sound source w (fast_plan source w) sound) holds
    (λ some. fast-secret_slot source w) c.requires.profile object made) in
    let few = subst (λ q. length (held_for (folded_source (source_of q)) (fast_plan (source_of q) w).places) ≤ 13)
    p.ensures.program holds.few in
    record {
      accepted = h.accepted;
      implements = folded-implements (source_of c.args.t.now) object numbers h.implements;
      laid_out =
          folded-laid (source_of c.args.t.now) w (fast_plan (source_of c.args.t.now) w) object layout.layout;
      machine = h.machine;
      size =
          let short = folded-short (source_of c.args.t.now) object
          (64 + 4 * length (held_for (folded_source (source_of c.args.t.now))
          (fast_plan (source_of c.args.t.now) w).places)) h.size in
          omega arith;
      stores = h.stores;
      in_range = layout.in_range;
      fits = search rules;
      refused = search rules;
    }
