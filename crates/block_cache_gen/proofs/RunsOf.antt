-- The code that is made of expressions, guards and assignments does what they mean, at any place.
use Rattle.std.proofs.Common.{ℕ, ◌+◌, ◌≤◌, arith}
use Rattle.gr_word.specs.declared.variables.Label.{Label}
use Rattle.src_tree.specs.Prelude.{context_of, height_of, LowStatement, Tree, Test, Statement, SetVariable, SetElement, Choice, Loop, TypedTree, TypedTest, TypedStatement}
use Rattle.block_cache_gen.specs.declared.frames.Mode.{Mode}
use Rattle.block_cache_gen.specs.Prelude.{Setting, expr_code, guard_code, set_code, IsAssignment, Evaluates, EvaluatesTest, Performs, room_of}
use Rattle.block_cache_gen.proofs.ExpressionRuns.{runs-expression}
use Rattle.block_cache_gen.proofs.GuardRuns.{runs-guard}
use Rattle.block_cache_gen.proofs.AssignmentRuns.{runs-set_variable, runs-set_element}

-- the code of an expression leaves its value in a register
pub expression-evaluates : (f : Setting) (mode : Mode) (to : ℕ) (e : Tree) → TypedTree (context_of f.decls) e
    → to + height_of e ≤ room_of f → Evaluates f mode to e (expr_code f mode to e)
expression-evaluates f mode to e typed room = record {
  runs = λ o store s b.
      runs-expression o b.in_range f b.homes store b.fits b.within mode e typed to room s b.shaped b.stands b.code_stands;
}

-- the code of a guard leaves its two sides in two registers
pub guard-evaluates : (f : Setting) (mode : Mode) (to : ℕ) (t : Test) → TypedTest (context_of f.decls) t
    → to + height_of t.left ≤ room_of f → (to + 1) + height_of t.right ≤ room_of f
    → EvaluatesTest f mode to t (guard_code f mode to t)
guard-evaluates f mode to t typed room room' = record {
  runs = λ o store s b.
      runs-guard o b.in_range f b.homes store b.fits b.within mode t typed to room room' s b.shaped b.stands b.code_stands;
}

-- the code of an assignment leaves the store of it, or without effect the store as it was
pub assignment-performs : (f : Setting) (mode : Mode) (code : Label) (s : Statement) → IsAssignment s
    → TypedStatement (context_of f.decls) code s → LowStatement s → Performs f mode s (set_code f mode s)
assignment-performs f mode code (SetVariable x e) is typed low = record {
  runs = λ o store s b.
      runs-set_variable o b.in_range f b.homes store b.fits b.within mode x typed.0.0 typed.0.1 e typed.1.0
      (omega (arith, low)) s b.shaped b.stands b.code_stands;
}
assignment-performs f mode code (SetElement x i e) is typed low = record {
  runs = λ o store s b.
      runs-set_element o b.in_range f b.homes store b.fits b.within mode x typed.0.0.0 typed.0.0.1 i e typed.0.1.0 typed.1.0
      (omega (arith, low.0)) (omega (arith, low.1)) s b.shaped b.stands b.code_stands;
}
assignment-performs f mode code (Choice t a b) is typed low = absurd is
assignment-performs f mode code (Loop t a) is typed low = absurd is
