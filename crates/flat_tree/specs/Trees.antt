-- Trees without functions and names: what a module becomes once its calls are inlined. Variables have numbers. All
-- expressions of a module remain except calls and lengths. (An intermediate form of this project's compiler of modules.)
use Rattle.std.specs.Prelude.{ℕ, ℤ}
use Rattle.module_tree.specs.Operators.{Operator}

pub data Term : Type 0 where
  Number : (value : ℤ) → Term
  Scalar : (k : ℕ) → Term
  Element : (k : ℕ) (index : Term) → Term
  Operation : (operator : Operator) (left right : Term) → Term
  Select : (test first second : Term) → Term

-- `Local k e body` sets variable number k to e, runs the body, and then gives the variable its old words back.
pub data Statement : Type 0 where
  Skip : Statement
  Seq : (first second : Statement) → Statement
  Set : (k : ℕ) (value : Term) → Statement
  Put : (k : ℕ) (index value : Term) → Statement
  If : (test : Term) (first second : Statement) → Statement
  While : (test : Term) (body : Statement) → Statement
  Local : (k : ℕ) (value : Term) (body : Statement) → Statement
