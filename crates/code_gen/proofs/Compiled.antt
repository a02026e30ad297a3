-- An object that a program was compiled to implements it, where the code of the body follows the body's statements.
use Rattle.std.proofs.Common.{◌≡◌, ℕ, length, sym, subst}
use Rattle.lt_isa.specs.Prelude.{Parts, IsInRange}
use Rattle.gr_word.specs.declared.variables.Label.TheVariants.{Public, Secret}
use Rattle.stretches.specs.Prelude.{StandsAt}
use Rattle.src_tree.specs.Prelude.{Source, Test, Block, Choice, context_of, label_of_test, IsWithinLimits, LowStatement, run_of, run_of_block, IsTyped, DeclaredOnce, TypedStatement}
use Rattle.bank_alloc.specs.Prelude.{IsLaidOut}
use Rattle.scratch_alloc.specs.Prelude.{Plan, IsSoundPlan}
use Rattle.block_cache_gen.specs.Prelude.{HasSecretSlot, Setting, ranged}
use Rattle.scalar_ranges.specs.Prelude.{AreOfPublic, Ranges}
use Rattle.block_cache_gen.proofs.Settled.{IsSettingOf, has-homes}
use Rattle.compiled_objects.specs.Prelude.{Implements, at_start}
use Rattle.code_gen.specs.Prelude.{Padding, block_code, beginning, program_code, Follows}
use Rattle.code_gen.proofs.Implementing.{implements}
use Rattle.code_gen.proofs.ByName.{names-words}
use Rattle.code_gen.proofs.PublicParts.{parts-follow}
use Rattle.code_gen.proofs.BodyFollowed.{body-follows}

-- by the layout
pub laid-implements : (p : Source) (w : ℕ) (plan : Plan) → IsTyped p → IsWithinLimits p → IsSoundPlan p w plan
    → (o : Parts) → IsInRange o → IsLaidOut p w plan.places plan.blocks o
    → (f : Setting) → IsSettingOf p plan o f → HasSecretSlot f → (padded : Padding)
    → o.code ≡ program_code f padded p.body
    → Follows o f (at_start f).ranges (length (beginning f)) (block_code (at_start f) padded p.body)
    (run_of_block p.decls p.body) → Implements p o
laid-implements p w plan typed limits sound o fits layout f setting slot padded code follows =
    implements p o fits f (has-homes p w plan limits sound o layout f setting)
    (subst DeclaredOnce (sym setting.decls) typed.once) slot
    (names-words p w plan typed.once limits sound o layout f setting) padded code follows

-- The same of both, where the code of each branch on a secret follows it.
abbrev pub SecretsFollow : Parts → Setting → Padding → Type 0
SecretsFollow o f padded =
    (known : Ranges) → AreOfPublic f.decls known → (t : Test) (a b : Block) (place : ℕ)
    → TypedStatement (context_of f.decls) Public (Choice t a b) → LowStatement (Choice t a b)
    → label_of_test (context_of f.decls) t ≡ Secret → StandsAt o place (padded (ranged f known) t a b)
    → Follows o f known place (padded (ranged f known) t a b) (run_of f.decls (Choice t a b))

-- an object with the program's layout and code implements it, where its branches on secrets are followed
pub laid-padded-implements : (p : Source) (w : ℕ) (plan : Plan) → IsTyped p → IsWithinLimits p → IsSoundPlan p w plan
    → (o : Parts) → IsInRange o → IsLaidOut p w plan.places plan.blocks o → (f : Setting) → IsSettingOf p plan o f
    → HasSecretSlot f → (padded : Padding)
    → o.code ≡ program_code f padded p.body → SecretsFollow o f padded → Implements p o
laid-padded-implements p w plan typed limits sound o fits layout f setting slot padded code secrets =
    laid-implements p w plan typed limits sound o fits layout f setting slot padded code
    (body-follows p o fits f padded setting.decls typed limits code
    (parts-follow o fits f (has-homes p w plan limits sound o layout f setting) padded secrets))
