-- The public code of statements follows their meaning, where that of guards and assignments does, and that of branches
-- on secrets.
use Rattle.std.proofs.Common.{◌≡◌, ℕ, ◌+◌, List, length, refl, subst}
use Rattle.gr_word.specs.declared.variables.Label.{Label}
use Rattle.gr_word.specs.declared.variables.Label.TheVariants.{Public, Secret}
use Rattle.lt_isa.specs.declared.instructions.Instr.{Instr}
use Rattle.lt_isa.specs.Prelude.{Parts, IsInRange}
use Rattle.stretches.specs.Prelude.{StandsAt}
use Rattle.stretches.proofs.Standing.{standing-first, standing-rest}
use Rattle.src_tree.specs.Prelude.{Tree, Test, Statement, SetVariable, SetElement, Choice, Loop, Block, Nothing, Then, context_of, label_of_test, Low, LowStatement, LowBlock, TypedTest, TypedStatement, TypedBlock, Execution, variable_number, evaluated, guard_holds, scalar_set, element_set, run_of, run_of_block}
use Rattle.scalar_ranges.specs.Prelude.{after_statement, forgotten_block, inside, AreOfPublic, Ranges}
use Rattle.scalar_ranges.proofs.Passing.{statement-within}
use Rattle.scalar_ranges.proofs.PublicOnly.{after-public, inside-public}
use Rattle.block_cache_gen.specs.Prelude.{Setting, ranged, guard_code, set_code}
use Rattle.block_cache_gen.proofs.SomeCode.{guard_code-some}
use Rattle.code_gen.specs.Prelude.{Follows, Padding, choice_by, statement_code, block_code}
use Rattle.code_gen.proofs.Following.{Tests, Changes, follows-none, follows-change, follows-append}
use Rattle.code_gen.proofs.Choosing.{standing-choice_guard, standing-choice_first, standing-choice_second, follows-choice}
use Rattle.code_gen.proofs.Turning.{standing-loop_guard, standing-loop_body, follows-loop}
use Rattle.block_cache_gen.specs.declared.frames.Mode.TheVariants as mode

-- What the code of guards, of assignments and of branches on secrets has to satisfy, in every state that may be known
-- at its place.
pub record PartsFollow (o : Parts) (f : Setting) (padded : Padding) : Type 0 where
  pub guards : (known : Ranges) (t : Test) (place : ℕ) → TypedTest (context_of f.decls) t → Low t.left × Low t.right
      → StandsAt o place (guard_code (ranged f known) mode.Public 0 t)
      → Tests o f known place (guard_code (ranged f known) mode.Public 0 t) t.cmp (λ store. guard_holds f.decls store t)
  pub scalars : (known : Ranges) (x : List ℕ) (e : Tree) (place : ℕ)
      → TypedStatement (context_of f.decls) Public (SetVariable x e) → LowStatement (SetVariable x e)
      → StandsAt o place (set_code (ranged f known) mode.Public (SetVariable x e))
      → Changes o f known place (set_code (ranged f known) mode.Public (SetVariable x e))
      (λ store. scalar_set store (variable_number f.decls x) (evaluated f.decls store e))
  pub elements : (known : Ranges) (x : List ℕ) (i e : Tree) (place : ℕ)
      → TypedStatement (context_of f.decls) Public (SetElement x i e) → LowStatement (SetElement x i e)
      → StandsAt o place (set_code (ranged f known) mode.Public (SetElement x i e))
      → Changes o f known place (set_code (ranged f known) mode.Public (SetElement x i e))
      (λ store. element_set store (variable_number f.decls x) (evaluated f.decls store i) (evaluated f.decls store e))
  pub secrets : (known : Ranges) → AreOfPublic f.decls known → (t : Test) (a b : Block) (place : ℕ)
      → TypedStatement (context_of f.decls) Public (Choice t a b) → LowStatement (Choice t a b)
      → label_of_test (context_of f.decls) t ≡ Secret → StandsAt o place (padded (ranged f known) t a b)
      → Follows o f known place (padded (ranged f known) t a b) (run_of f.decls (Choice t a b))

-- code by the label of a guard
follows_by : {o : Parts} {f : Setting} {known : Ranges} {place : ℕ} {public padded : List Instr} {run : Execution}
    (label given : Label) → given ≡ label
    → (given ≡ Public → StandsAt o place public → Follows o f known place public run)
    → (given ≡ Secret → StandsAt o place padded → Follows o f known place padded run)
    → StandsAt o place (choice_by label public padded) → Follows o f known place (choice_by label public padded) run
follows_by Public given e one two at = one e at
follows_by Secret given e one two at = two e at

module _ (o : Parts) (fits : IsInRange o) (f : Setting) (padded : Padding) (parts : PartsFollow o f padded) where
  mutual
    pub statement-follows : (known : Ranges) → AreOfPublic f.decls known → (s : Statement) (place : ℕ)
        → TypedStatement (context_of f.decls) Public s → LowStatement s
        → StandsAt o place (statement_code (ranged f known) padded s)
        → Follows o f known place (statement_code (ranged f known) padded s) (run_of f.decls s)
    statement-follows known only (SetVariable x e) place typed low at =
        follows-change place (set_code (ranged f known) mode.Public (SetVariable x e))
        (λ store. scalar_set store (variable_number f.decls x) (evaluated f.decls store e))
        (run_of f.decls (SetVariable x e)) fits
        (λ store turns. refl)
        (parts.scalars known x e place typed low at)
    statement-follows known only (SetElement x i e) place typed low at =
        follows-change place (set_code (ranged f known) mode.Public (SetElement x i e))
        (λ store. element_set store (variable_number f.decls x) (evaluated f.decls store i) (evaluated f.decls store e))
        (run_of f.decls (SetElement x i e)) fits (λ store turns. refl)
        (parts.elements known x i e place typed low at)
    statement-follows known only (Choice t a b) place typed low at =
        let g = ranged f known in
        let guard = guard_code g mode.Public 0 t in
        let first = block_code g padded a in
        let second = block_code g padded b in
        follows_by (label_of_test (context_of f.decls) t) (label_of_test (context_of f.decls) t) refl
        (λ e at'.
        follows-choice o fits f known place guard first second t.cmp (λ store. guard_holds f.decls store t)
        (run_of_block f.decls a)
        (run_of_block f.decls b) at'
        (parts.guards known t place typed.0 low.0 (standing-choice_guard guard t.cmp first second at'))
        (block-follows known only a (place + length guard + 1)
        (subst (λ l. TypedBlock (context_of f.decls) l a) e typed.1.0) low.1.0
        (standing-choice_first guard t.cmp first second at'))
        (block-follows known only b _ (subst (λ l. TypedBlock (context_of f.decls) l b) e typed.1.1) low.1.1
        (standing-choice_second guard t.cmp first second at')))
        (λ e at'. parts.secrets known only t a b place typed low e at')
        at
    statement-follows known only (Loop t a) place typed low at =
        let behind = forgotten_block f.decls known a in
        let inner = inside f.decls known t a in
        let guard = guard_code (ranged f behind) mode.Public 0 t in
        let body = block_code (ranged f inner) padded a in
        follows-loop o fits f known place guard body t a (guard_code-some (ranged f behind) mode.Public 0 t) at
        (parts.guards behind t (place + 1 + length body) typed.0 low.0 (standing-loop_guard guard t.cmp body at))
        (block-follows inner (inside-public f.decls known t a only) a (place + 1) typed.1.1.1 low.1
        (standing-loop_body guard t.cmp body at))

    -- a block of public code is followed
    pub block-follows : (known : Ranges) → AreOfPublic f.decls known → (b : Block) (place : ℕ)
        → TypedBlock (context_of f.decls) Public b → LowBlock b
        → StandsAt o place (block_code (ranged f known) padded b)
        → Follows o f known place (block_code (ranged f known) padded b) (run_of_block f.decls b)
    block-follows known only Nothing place typed low at = follows-none place
    block-follows known only (Then s rest) place typed low at =
        let next = after_statement f.decls known s in
        let one = statement_code (ranged f known) padded s in
        let others = block_code (ranged f next) padded rest in
        follows-append
        (statement-follows known only s place typed.0 low.0 (standing-first one others at))
        (block-follows next (after-public f.decls known s only) rest (place + length one) typed.1 low.1
        (standing-rest one others at))
        (λ before after within ran. statement-within f.decls known s before after within ran)
