-- The trees of the source language as contracts see them, without pointers. (The language's syntax is this project's
-- profile of the source language of GhostRider, ASPLOS 2015.)
use Rattle.std.specs.Prelude.{ℕ, ℤ, List, [], ◌∷◌, map}
use Rattle.gr_word.specs.declared.operations.Op.{Op}
use Rattle.gr_word.specs.declared.operations.Cmp.{Cmp}
use Rattle.src_tree.specs.declared.trees.Expr.{Expr}
use Rattle.src_tree.specs.declared.trees.Guard.{Guard}
use Rattle.src_tree.specs.declared.trees.Stmt.{Stmt}
use Rattle.src_tree.specs.declared.trees.Stmt.TheOpen.{Stmt-F}
use Rattle.src_tree.specs.declared.trees.Stmt.TheFolds.{fold-Stmt}
use Rattle.src_tree.specs.declared.trees.Decl.{Decl}
use Rattle.src_tree.specs.declared.trees.Program.{Program}
use Rattle.src_tree.specs.declared.trees.Expr.TheVariants as expr
use Rattle.src_tree.specs.declared.trees.Stmt.TheOpen as open_stmt

-- an expression: a number, a variable, an element of an array with its index, or an operation on two expressions
pub data Tree : Type 0 where
  Number : (value : ℤ) → Tree
  Variable : (name : List ℕ) → Tree
  Element : (name : List ℕ) (index : Tree) → Tree
  Operation : (op : Op) (left right : Tree) → Tree

-- a guard: two expressions that are compared
pub record Test : Type 0 where
  pub cmp : Cmp
  pub left : Tree
  pub right : Tree

-- a statement, and a block of statements in order
mutual
  pub data Statement : Type 0 where
    SetVariable : (name : List ℕ) (value : Tree) → Statement
    SetElement : (name : List ℕ) (index value : Tree) → Statement
    Choice : (test : Test) (first second : Block) → Statement
    Loop : (test : Test) (body : Block) → Statement

  pub data Block : Type 0 where
    Nothing : Block
    Then : (first : Statement) (rest : Block) → Block

-- a program: its declarations and its statements
pub record Source : Type 0 where
  pub decls : List Decl
  pub body : Block

-- the tree of an expression
abbrev pub expr_tree : Expr → Tree
expr_tree (expr.Num z) = Number z
expr_tree (expr.Var x) = Variable x
expr_tree (expr.Item' x p i) = Element x (expr_tree i)
expr_tree (expr.Bin' op p a q b) = Operation op (expr_tree a) (expr_tree b)

abbrev pub test_of : Guard → Test
test_of g = record { cmp = g.cmp; left = expr_tree g.left; right = expr_tree g.right }

-- statements in order, as a block
abbrev pub block_of : List Statement → Block
block_of [] = Nothing
block_of (s ∷ ss) = Then s (block_of ss)

-- one statement, after the statements in its blocks
abbrev pub statement_step : Stmt-F Statement → Statement
statement_step (open_stmt.Set x e) = SetVariable x (expr_tree e)
statement_step (open_stmt.Put x i e) = SetElement x (expr_tree i) (expr_tree e)
statement_step (open_stmt.If g a b) = Choice (test_of g) (block_of a.items) (block_of b.items)
statement_step (open_stmt.While g a) = Loop (test_of g) (block_of a.items)

-- the tree of a statement
abbrev pub statement_of : Stmt → Statement
statement_of = fold-Stmt Statement statement_step

-- the tree of several statements
abbrev pub block_of_all : List Stmt → Block
block_of_all statements = block_of (map statement_of statements)

-- the tree of a program
abbrev pub source_of : Program → Source
source_of p = record { decls = p.decls.items; body = block_of_all p.body.items }
