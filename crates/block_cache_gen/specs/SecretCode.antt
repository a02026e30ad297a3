-- How the check walks code that is made for an arm of a branch on a secret, in every object that has the homes of its
-- setting and has that code in an arm: nothing is refused, what the setting relies on is kept, and what is shown and
-- left depends only on the part. (GhostRider, ASPLOS 2015: the type system of L_T.)
use Rattle.std.specs.Prelude.{◌≡◌, ℕ, ◌+◌, ◌<◌, List, length, Some}
use Rattle.std.specs.Option.{unwrap_or}
use Rattle.gr_word.specs.declared.variables.Label.TheVariants.{Public}
use Rattle.lt_isa.specs.declared.instructions.Instr.{Instr}
use Rattle.lt_isa.specs.Object.{Parts}
use Rattle.symbolic_values.specs.Trees.{Value}
use Rattle.src_tree.specs.Contexts.{context_of}
use Rattle.src_tree.specs.Labels.{label_of}
use Rattle.src_tree.specs.Trees.{Tree, Test, Statement}
use Rattle.trace_patterns.specs.Patterns.{Shown}
use Rattle.trace_patterns.specs.Events.{TreeEvent}
use Rattle.trace_patterns.specs.SymStates.{SymState, tree_held, slot_held}
use Rattle.trace_patterns.specs.Walk.{WalksTo}
use Rattle.stretches.specs.InArms.{StandsInArm}
use Rattle.block_cache_gen.specs.Homes.{Setting, HasHomes}
use Rattle.block_cache_gen.specs.Carries.{CarriesInArm}
use Rattle.block_cache_gen.specs.PatternsOf.{Loads, tree_of_expr, pattern_of_expr, slots_of_expr, pattern_of_test, slots_of_test, pattern_of_set, slots_of_set}

-- The code at p is walked from s to its end and shows a pattern; a slot then holds what was loaded last, or what it
-- held if nothing was loaded.
pub record ArmWalk (o : Parts) (f : Setting) (depth p : ℕ) (s : SymState) (code : List Instr)
    (pattern : Shown TreeEvent) (loads : Loads) : Type 0 where
  pub state : SymState
  pub walks : WalksTo o depth (p + length code) p s pattern state
  pub carries : CarriesInArm f state
  pub slots : (slot : ℕ) → slot_held state slot ≡ unwrap_or (loads slot) (slot_held s slot)

-- at any place, and for any state before it
abbrev pub AtEachPlace : Setting → List Instr → (Parts → (depth p : ℕ) → SymState → Type 0) → Type 0
AtEachPlace f code Walk =
    (o : Parts) (depth p : ℕ) (s : SymState)
    → HasHomes o f → StandsInArm o p code → CarriesInArm f s → Walk o depth p s

-- a register holds the tree of an expression, and there is one where the expression is public
pub record HoldsTree (f : Setting) (s : SymState) (r : ℕ) (e : Tree) : Type 0 where
  pub tree : tree_held s r ≡ tree_of_expr f e
  pub public : label_of (context_of f.decls) e ≡ Public → (t : Value) × (tree_of_expr f e ≡ Some t)

-- registers below one hold what they held
abbrev pub KeepsBelow : ℕ → SymState → SymState → Type 0
KeepsBelow to s t = (r : ℕ) → r < to → tree_held t r ≡ tree_held s r

-- the code of an expression
pub record ExprWalk (o : Parts) (f : Setting) (depth p : ℕ) (s : SymState) (code : List Instr) (to : ℕ)
    (e : Tree) : Type 0 where
  pub walk : ArmWalk o f depth p s code (pattern_of_expr f e) (slots_of_expr f e)
  pub value : HoldsTree f walk.state to e
  pub below : KeepsBelow to s walk.state

abbrev pub IsWalkedAsExpr : Setting → ℕ → Tree → List Instr → Type 0
IsWalkedAsExpr f to e code = AtEachPlace f code (λ o depth p s. ExprWalk o f depth p s code to e)

-- the code of a guard
pub record TestWalk (o : Parts) (f : Setting) (depth p : ℕ) (s : SymState) (code : List Instr) (to : ℕ)
    (t : Test) : Type 0 where
  pub walk : ArmWalk o f depth p s code (pattern_of_test f t) (slots_of_test f t)
  pub left : HoldsTree f walk.state to t.left
  pub right : HoldsTree f walk.state (to + 1) t.right
  pub below : KeepsBelow to s walk.state

abbrev pub IsWalkedAsTest : Setting → ℕ → Test → List Instr → Type 0
IsWalkedAsTest f to t code = AtEachPlace f code (λ o depth p s. TestWalk o f depth p s code to t)

-- the code of an assignment
abbrev pub IsWalkedAsSet : Setting → Statement → List Instr → Type 0
IsWalkedAsSet f a code =
    AtEachPlace f code (λ o depth p s. ArmWalk o f depth p s code (pattern_of_set f a) (slots_of_set f a))
