-- The code of branches on secrets follows them, so that an object with the code of a program implements it.
use Rattle.std.proofs.Common.{◌≡◌, ℕ, ◌+◌, length, refl, arith}
use Rattle.lt_isa.specs.Prelude.{Parts, IsInRange}
use Rattle.stretches.specs.Prelude.{greatest_costs}
use Rattle.stretches.proofs.Coming.{comes-weaker}
use Rattle.src_tree.specs.Prelude.{Source, Choice, IsWithinLimits, Store, run_of, IsTyped}
use Rattle.bank_alloc.specs.Prelude.{IsLaidOut}
use Rattle.scratch_alloc.specs.Prelude.{Plan, IsSoundPlan}
use Rattle.block_cache_gen.specs.Prelude.{HasSecretSlot, Assigns, Setting, HasHomes, ranged}
use Rattle.block_cache_gen.proofs.Ranged.{fits-ranged, homes-ranged, stands-ranged}
use Rattle.block_cache_gen.proofs.Settled.{IsSettingOf, has-homes}
use Rattle.branch_padding.specs.Prelude.{effect_of}
use Rattle.branch_padding.proofs.EffectsMean.{secret_choice-means}
use Rattle.branch_padding.proofs.EffectRuns.{choice-changes}
use Rattle.code_gen.specs.Prelude.{padding_of, program_code}
use Rattle.compiled_objects.specs.Prelude.{Implements}
use Rattle.code_gen.proofs.RangedParts.{assigns-ranged}
use Rattle.code_gen.proofs.Following.{Changes, follows-change}
use Rattle.code_gen.proofs.Compiled.{SecretsFollow, laid-padded-implements}

pub secrets-follow : (o : Parts) → IsInRange o → (f : Setting) → HasHomes o f → SecretsFollow o f padding_of
secrets-follow o fits f homes known only t a b place typed low secret at =
    let g = ranged f known in
    let after : Store → Store = effect_of f.decls (Choice t a b) in
    let changes : Changes o f known place (padding_of g t a b) after = record {
      changed = λ s store shaped there stands has within.
          let run = choice-changes g only o fits (homes-ranged o f known homes) t a b place typed secret low at s store
          shaped there (stands-ranged f known s store stands) (fits-ranged f known store has) within in (
            run.0,
            comes-weaker run.0 (place + length (padding_of g t a b)) (greatest_costs o (padding_of g t a b))
                (Assigns f (after store)) run.1 refl refl (omega arith)
                (λ u shape made. assigns-ranged f known (after store) u made),
          );
    } in
    follows-change place (padding_of g t a b) after (run_of f.decls (Choice t a b)) fits
    (secret_choice-means f.decls t a b typed secret) changes

-- by the layout
pub laid-code-implements : (p : Source) (w : ℕ) (plan : Plan) → IsTyped p → IsWithinLimits p → IsSoundPlan p w plan
    → (o : Parts) → IsInRange o → IsLaidOut p w plan.places plan.blocks o → (f : Setting) → IsSettingOf p plan o f
    → HasSecretSlot f → o.code ≡ program_code f padding_of p.body → Implements p o
laid-code-implements p w plan typed limits sound o fits layout f setting slot code =
    laid-padded-implements p w plan typed limits sound o fits layout f setting slot padding_of code
    (secrets-follow o fits f (has-homes p w plan limits sound o layout f setting))
