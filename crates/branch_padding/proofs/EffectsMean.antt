-- What statements of secret code make of a store is what they mean, and they use no turns.
use Rattle.std.proofs.Common.{◌≡◌, ℕ, Bool, true, false, List, Option, Some, refl, ap, ◌∙◌, subst}
use Rattle.std.specs.Prelude.{if◌then◌else◌}
use Rattle.std.specs.Option.{option_and_then}
use Rattle.gr_word.specs.declared.variables.Label.TheVariants.{Public, Secret}
use Rattle.src_tree.specs.declared.trees.Decl.{Decl}
use Rattle.gr_word.specs.declared.variables.Label.{Label}
use Rattle.src_tree.specs.Prelude.{Context, context_of, inside, label_of_test, Store, Left, guard_holds, run_of, run_of_block, Test, Statement, SetVariable, SetElement, Choice, Loop, Block, Nothing, Then, TypedStatement, TypedBlock}
use Rattle.src_tree.proofs.Loops.{left}
use Rattle.branch_padding.specs.Prelude.{effect_of, effect_of_block}

either-means : (h : Bool) (one two : Option Left) (x y : Store) (turns : ℕ) → one ≡ Some (left x turns)
    → two ≡ Some (left y turns)
    → (if h then one else two) ≡ Some (left (if h then x else y) turns)
either-means true one two x y turns is other = is
either-means false one two x y turns is other = other

public-secret : {X : Type 0} → Secret ≡ Public → X
public-secret e = absurd (cc)

-- where the parts are secret code, the choice is typed as in secret code
pub secret-typed : (known : Context) (code : Label) (t : Test) (a b : Block) → inside known code t ≡ Secret
    → TypedStatement known code (Choice t a b) → TypedStatement known Secret (Choice t a b)
secret-typed known code t a b secret typed = (
  typed.0,
  (
    subst (λ (l : Label). TypedBlock known l a) secret typed.1.0,
    subst (λ (l : Label). TypedBlock known l b) secret typed.1.1,
  ),
)

module _ (decls : List Decl) where
  mutual
    -- the effect of a statement is what it means
    pub effect-means : (s : Statement) → TypedStatement (context_of decls) Secret s → (store : Store) (turns : ℕ)
        → run_of decls s (left store turns) ≡ Some (left (effect_of decls s store) turns)
    effect-means (SetVariable x e) typed store turns = refl
    effect-means (SetElement x i e) typed store turns = refl
    effect-means (Choice t a b) typed store turns =
        either-means (guard_holds decls store t) (run_of_block decls a (left store turns))
        (run_of_block decls b (left store turns))
        (effect_of_block decls a store) (effect_of_block decls b store) turns
        (effect_of_block-means a typed.1.0 store turns)
        (effect_of_block-means b typed.1.1 store turns)
    effect-means (Loop t a) typed store turns = public-secret typed.1.1.0

    pub effect_of_block-means : (b : Block) → TypedBlock (context_of decls) Secret b → (store : Store) (turns : ℕ)
        → run_of_block decls b (left store turns) ≡ Some (left (effect_of_block decls b store) turns)
    effect_of_block-means Nothing typed store turns = refl
    effect_of_block-means (Then s rest) typed store turns =
        ap (option_and_then (run_of_block decls rest)) (effect-means s typed.0 store turns)
        ∙ effect_of_block-means rest typed.1 (effect_of decls s store) turns

  -- so it is for a choice by a secret in public code
  pub secret_choice-means : (t : Test) (a b : Block) → TypedStatement (context_of decls) Public (Choice t a b)
      → label_of_test (context_of decls) t ≡ Secret → (store : Store) (turns : ℕ)
      → run_of decls (Choice t a b) (left store turns) ≡ Some (left (effect_of decls (Choice t a b) store) turns)
  secret_choice-means t a b typed secret store turns =
      either-means (guard_holds decls store t) (run_of_block decls a (left store turns))
      (run_of_block decls b (left store turns))
      (effect_of_block decls a store) (effect_of_block decls b store) turns
      (effect_of_block-means a (subst (λ code. TypedBlock (context_of decls) code a) secret typed.1.0) store turns)
      (effect_of_block-means b (subst (λ code. TypedBlock (context_of decls) code b) secret typed.1.1) store turns)
