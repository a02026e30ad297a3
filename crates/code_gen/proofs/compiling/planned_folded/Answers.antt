use Rattle.std.proofs.Common.{sym, subst, ap, ◌∙◌}
use Rattle.std.specs.Prelude.{OnOk, Result, Ok, Err}
use Rattle.held_registers.specs.Prelude.{IsSoundHeld}
use Rattle.src_tree.specs.Prelude.{IsWithinLimits, IsTyped, source_of}
use Rattle.scratch_alloc.specs.Prelude.{IsSoundPlan, plan_from}
use Rattle.source_folding.proofs.FoldedPrograms.{folded-source_typed, folded-within}
use Rattle.block_cache_gen.specs.Prelude.{BlockHasWords}
use Rattle.code_gen.proofs.FoldedPlans.{folded-sound}
use Rattle.compiled_objects.specs.Prelude.{held_for}
use Rattle.code_gen.proofs.HeldNumbers.{held_for-sound, places-fit}
use Rattle.code_gen.proofs.compiling.planned_folded.Goals as goal

pub planned-requires-clause-typed : goal.planned-requires-clause-typed
planned-requires-clause-typed c =
    subst IsTyped (sym c.in_ok-program.ensures.folded) (folded-source_typed (source_of c.args.program.now) c.requires.typed)

pub planned-requires-clause-within : goal.planned-requires-clause-within
planned-requires-clause-within c =
    subst IsWithinLimits (sym c.in_ok-program.ensures.folded)
    (folded-within (source_of c.args.program.now) c.requires.within)

pub planned-requires-clause-held : goal.planned-requires-clause-held
planned-requires-clause-held c =
    subst (IsSoundHeld c.in_ok-program.program.decls.items)
    (sym (c.as_slice-2.ensures.value ∙ c.in_ok-held.ensures.held
    ∙ ap (held_for (source_of c.in_ok-program.program)) c.as_slice.ensures.value))
    (held_for-sound (source_of c.in_ok-program.program) c.args.places.now.of_var.items c.in_ok-held.ensures.words
    (places-fit (source_of c.args.program.now) c.args.p.now.block_log
    (plan_from c.args.places.now c.args.slots.now) c.requires.within c.requires.plan c.requires.profile.block_log.1))

pub planned-requires-clause-plan : goal.planned-requires-clause-plan
planned-requires-clause-plan c =
    let plan = plan_from c.args.places.now c.args.slots.now in
    let w = c.args.p.now.block_log in
    subst (λ q. IsSoundPlan q w plan) (sym c.in_ok-program.ensures.folded)
    (folded-sound (source_of c.args.program.now) w plan c.requires.plan)

any_ok : {T E P : Type 0} (r : Result T E) → P → OnOk r P
any_ok (Ok value) holds = holds
any_ok (Err error) holds = tt

pub returns-clause-words : goal.returns-clause-words
returns-clause-words c =
    any_ok c.planned.result
    (subst (λ q. BlockHasWords q.body) c.in_ok-program.ensures.folded c.in_ok-held.ensures.words)
