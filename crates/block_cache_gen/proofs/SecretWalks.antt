-- The code of expressions, guards and assignments in secret code, at any place in an arm.
use Rattle.std.proofs.Common.{◌≡◌, ℕ, ◌+◌, ◌≤◌, false, List}
use Rattle.gr_word.specs.declared.variables.Label.TheVariants.{Secret}
use Rattle.lt_isa.specs.declared.instructions.Instr.{Instr}
use Rattle.lt_isa.specs.Prelude.{Parts}
use Rattle.src_tree.specs.Prelude.{context_of, height_of, LowStatement, Tree, Test, Statement, TypedTree, TypedTest, TypedStatement}
use Rattle.stretches.specs.Prelude.{Show, pattern_of, StandsInArm}
use Rattle.trace_patterns.specs.Prelude.{SymState}
use Rattle.block_cache_gen.specs.declared.frames.Mode.{Mode}
use Rattle.block_cache_gen.specs.Prelude.{Setting, may_skip_loads, expr_code, guard_code, set_code, HasPublicIndexes, TestHasPublicIndexes, SetHasPublicIndexes, Loads, tree_of_expr, shows_of_expr, slots_of_expr, shows_of_test, slots_of_test, shows_of_set, slots_of_set, ArmWalk, IsWalkedAsExpr, IsWalkedAsTest, IsWalkedAsSet, room_of}
use Rattle.block_cache_gen.proofs.PublicTrees.{public-tree}
use Rattle.block_cache_gen.proofs.ArmExpressions.{expr-leaves, guard-leaves}
use Rattle.block_cache_gen.proofs.ArmAssignments.{Goes, goes-leaves, set-goes}

-- a stretch of code that falls through at its place
abbrev pub walk-goes : (o : Parts) (f : Setting) (depth p : ℕ) (s : SymState) (code : List Instr) (shows : List Show)
    (loads : Loads) → StandsInArm o p code → Goes o f depth s code shows loads
    → ArmWalk o f depth p s code (pattern_of shows) loads
walk-goes o f depth p s code shows loads stands goes = record {
  state = goes.state;
  walks = goes.walked.walks p stands;
  carries = goes.carries;
  slots = goes.slots;
}

module _ (f : Setting) (mode : Mode) (secret : may_skip_loads mode ≡ false) where
  -- the code of an expression is walked in an arm
  pub expr-walked : (to : ℕ) (e : Tree) → TypedTree (context_of f.decls) e → HasPublicIndexes f e
      → to + height_of e ≤ room_of f → IsWalkedAsExpr f to e (expr_code f mode to e)
  expr-walked to e typed public low = λ o depth p s homes stands carries.
      let code = expr_code f mode to e in
      let leaves = expr-leaves o f homes depth mode secret e s to typed public low carries in
      record {
        walk = walk-goes o f depth p s code (shows_of_expr f e) (slots_of_expr f e) stands
            (goes-leaves o f depth s code (shows_of_expr f e) to (tree_of_expr f e) (slots_of_expr f e) leaves);
        value = record { tree = leaves.held; public = public-tree o f homes e typed };
        below = leaves.below;
      }

  -- the code of a guard is walked in an arm
  pub guard-walked : (to : ℕ) (t : Test) → TypedTest (context_of f.decls) t → TestHasPublicIndexes f t
      → to + height_of t.left ≤ room_of f → to + 1 + height_of t.right ≤ room_of f
      → IsWalkedAsTest f to t (guard_code f mode to t)
  guard-walked to t typed public low next = λ o depth p s homes stands carries.
      let code = guard_code f mode to t in
      let both = guard-leaves o f homes depth mode secret t s to typed public low next carries in
      record {
        walk = walk-goes o f depth p s code (shows_of_test f t) (slots_of_test f t) stands
            (goes-leaves o f depth s code (shows_of_test f t) to (tree_of_expr f t.left) (slots_of_test f t)
            both.leaves);
        left = record { tree = both.leaves.held; public = public-tree o f homes t.left typed.0 };
        right = record { tree = both.next; public = public-tree o f homes t.right typed.1 };
        below = both.leaves.below;
      }

  -- the code of an assignment is walked in an arm
  pub set-walked : (a : Statement) → TypedStatement (context_of f.decls) Secret a → SetHasPublicIndexes f a
      → LowStatement a → IsWalkedAsSet f a (set_code f mode a)
  set-walked a typed public low = λ o depth p s homes stands carries.
      walk-goes o f depth p s (set_code f mode a) (shows_of_set f a) (slots_of_set f a) stands
      (set-goes o f homes depth mode secret a s typed public low carries)
