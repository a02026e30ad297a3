-- The public code of guards and of assignments does what they mean, where an object has the homes that it is made for.
use Rattle.std.proofs.Common.{◌≡◌, ℕ, ◌+◌, List, length, refl, sym, ap, ◌∙◌, subst, arith}
use Rattle.gr_word.specs.Prelude.{compared}
use Rattle.gr_word.specs.declared.variables.Label.TheVariants.{Public, Secret}
use Rattle.lt_isa.specs.declared.instructions.Instr.{Instr}
use Rattle.lt_isa.specs.Prelude.{Parts, IsInRange, State, Observed, register, IsShaped}
use Rattle.stretches.specs.Prelude.{StandsAt, greatest_costs, Comes, RunsThrough}
use Rattle.stretches.proofs.Coming.{comes-weaker}
use Rattle.src_tree.specs.Prelude.{Tree, Test, SetVariable, SetElement, Choice, Block, context_of, label_of_test, Low, LowStatement, TypedTest, TypedStatement, variable_number, evaluated, guard_holds, scalar_set, element_set, run_of}
use Rattle.scalar_ranges.specs.Prelude.{AreOfPublic, Ranges}
use Rattle.block_cache_gen.specs.Prelude.{Setting, HasHomes, ranged, guard_code, set_code, test_accesses, seen_of_all, Assigns, seen_of_set}
use Rattle.block_cache_gen.proofs.Ranged.{fits-ranged, homes-ranged, stands-ranged}
use Rattle.block_cache_gen.proofs.GuardRuns.{runs-guard}
use Rattle.block_cache_gen.proofs.AssignmentRuns.{runs-set_variable, runs-set_element}
use Rattle.code_gen.specs.Prelude.{Follows, Padding}
use Rattle.code_gen.proofs.Following.{Tested, Tests, Changes}
use Rattle.code_gen.proofs.Followed.{PartsFollow}
use Rattle.code_gen.proofs.RangedParts.{assigns-ranged}
use Rattle.block_cache_gen.specs.declared.frames.Mode.TheVariants as mode

-- a run from the place of some code, seen from the code's place
through-at : {o : Parts} {s : State} {shown : List Observed} {P : State → Type 0} (code : List Instr) (place : ℕ)
    (Q : State → Type 0) → s.place ≡ place → RunsThrough o s code shown P → ((t : State) → IsShaped o t → P t → Q t)
    → Comes o s shown (place + length code) (greatest_costs o code) Q
through-at {o = o} {shown = shown} code place Q there run more =
    comes-weaker shown (place + length code) (greatest_costs o code) Q run refl
    (ap (λ p. p + length code) there) (omega arith) more

module _ (o : Parts) (fits : IsInRange o) (f : Setting) (homes : HasHomes o f) where
  pub guard-tests : (known : Ranges) (t : Test) (place : ℕ) → TypedTest (context_of f.decls) t
      → Low t.left × Low t.right → StandsAt o place (guard_code (ranged f known) mode.Public 0 t)
      → Tests o f known place (guard_code (ranged f known) mode.Public 0 t) t.cmp
      (λ store. guard_holds f.decls store t)
  guard-tests known t place typed low at =
      let g = ranged f known in
      record {
        tested = λ s store shaped there stands has within. (
          seen_of_all mode.Public s.banks s.slots (test_accesses g store t),
          through-at (guard_code g mode.Public 0 t) place
              (Tested f t.cmp (λ store. guard_holds f.decls store t) store)
              there
              (runs-guard o fits g (homes-ranged o f known homes) store (fits-ranged f known store has) within mode.Public
              t typed 0 (omega (arith, low.0))
              (omega (arith, low.1)) s shaped (stands-ranged f known s store stands)
              (subst (λ p. StandsAt o p (guard_code g mode.Public 0 t)) (sym there) at))
              (λ u shape leaves. record {
                says =
                    ap (λ v. compared t.cmp v (register u 1)) leaves.first
                    ∙ ap (λ v. compared t.cmp (evaluated f.decls store t.left) v) leaves.second;
                stands = stands-ranged g f.ranges u store leaves.stands;
              }),
        );
      }

  pub scalar-changes : (known : Ranges) (x : List ℕ) (e : Tree) (place : ℕ)
      → TypedStatement (context_of f.decls) Public (SetVariable x e)
      → LowStatement (SetVariable x e) → StandsAt o place (set_code (ranged f known) mode.Public (SetVariable x e))
      → Changes o f known place (set_code (ranged f known) mode.Public (SetVariable x e))
      (λ store. scalar_set store (variable_number f.decls x) (evaluated f.decls store e))
  scalar-changes known x e place typed low at =
      let g = ranged f known in
      record {
        changed = λ s store shaped there stands has within.
            let left = scalar_set store (variable_number f.decls x) (evaluated f.decls store e) in (
              seen_of_set g mode.Public s.banks s.slots store (SetVariable x e),
              through-at (set_code g mode.Public (SetVariable x e)) place (Assigns f left) there
                  (runs-set_variable o fits g (homes-ranged o f known homes) store (fits-ranged f known store has)
                  within mode.Public x typed.0.0 typed.0.1 e typed.1.0 (omega (arith, low)) s shaped
                  (stands-ranged f known s store stands)
                  (subst (λ p. StandsAt o p (set_code g mode.Public (SetVariable x e))) (sym there) at))
                  (λ u shape made. assigns-ranged f known left u made),
            );
      }

  pub element-changes : (known : Ranges) (x : List ℕ) (i e : Tree) (place : ℕ)
      → TypedStatement (context_of f.decls) Public (SetElement x i e)
      → LowStatement (SetElement x i e) → StandsAt o place (set_code (ranged f known) mode.Public (SetElement x i e))
      → Changes o f known place (set_code (ranged f known) mode.Public (SetElement x i e))
      (λ store. element_set store (variable_number f.decls x) (evaluated f.decls store i) (evaluated f.decls store e))
  element-changes known x i e place typed low at =
      let g = ranged f known in
      record {
        changed = λ s store shaped there stands has within.
            let left = element_set store (variable_number f.decls x) (evaluated f.decls store i)
            (evaluated f.decls store e) in (
              seen_of_set g mode.Public s.banks s.slots store (SetElement x i e),
              through-at (set_code g mode.Public (SetElement x i e)) place (Assigns f left) there
                  (runs-set_element o fits g (homes-ranged o f known homes) store (fits-ranged f known store has)
                  within mode.Public x typed.0.0.0 typed.0.0.1 i e typed.0.1.0 typed.1.0 (omega (arith, low.0))
                  (omega (arith, low.1)) s shaped (stands-ranged f known s store stands)
                  (subst (λ p. StandsAt o p (set_code g mode.Public (SetElement x i e))) (sym there) at))
                  (λ u shape made. assigns-ranged f known left u made),
            );
      }

  -- with what is wanted of the code of branches on secrets
  pub parts-follow : (padded : Padding)
      → ((known : Ranges) → AreOfPublic f.decls known → (t : Test) (a b : Block) (place : ℕ)
      → TypedStatement (context_of f.decls) Public (Choice t a b) → LowStatement (Choice t a b)
      → label_of_test (context_of f.decls) t ≡ Secret → StandsAt o place (padded (ranged f known) t a b)
      → Follows o f known place (padded (ranged f known) t a b) (run_of f.decls (Choice t a b)))
      → PartsFollow o f padded
  parts-follow padded secrets = record {
    guards = guard-tests;
    scalars = scalar-changes;
    elements = element-changes;
    secrets = secrets;
  }
