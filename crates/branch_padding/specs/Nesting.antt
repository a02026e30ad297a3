-- How deeply branches are nested. (This project's profile: the check allows 64 regions around a place.)
use Rattle.std.specs.Prelude.{ℕ, ◌+◌, max}
use Rattle.src_tree.specs.Trees.{Statement, SetVariable, SetElement, Choice, Loop, Block, Nothing, Then}

-- the greatest depth of nested branches in a statement and in a block, the statement itself included
abbrev mutual
  pub nesting_of : Statement → ℕ
  nesting_of (SetVariable x e) = 0
  nesting_of (SetElement x i e) = 0
  nesting_of (Choice t a b) = 1 + max (nesting_of_block a) (nesting_of_block b)
  nesting_of (Loop t a) = nesting_of_block a

  pub nesting_of_block : Block → ℕ
  nesting_of_block Nothing = 0
  nesting_of_block (Then s rest) = max (nesting_of s) (nesting_of_block rest)
