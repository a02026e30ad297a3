-- For the proofs and for private clauses only: the first error of a block, part by part.
use Rattle.std.specs.Prelude.{ℕ, ◌+◌, Option, None}
use Rattle.gr_word.specs.declared.variables.Label.{Label}
use Rattle.src_tree.specs.Trees.{Statement, SetVariable, SetElement, Choice, Loop, Block, Nothing, Then}
use Rattle.src_tree.specs.declared.faults.TypeError.{TypeError}
use Rattle.src_tree.specs.Contexts.{Context}
use Rattle.src_tree.specs.Labels.{inside}
use Rattle.src_tree.specs.FirstFault.{StatementFault, ◌or_else◌}

-- the number of statements, including those in blocks
abbrev mutual
  pub count_of : Statement → ℕ
  count_of (SetVariable x e) = 1
  count_of (SetElement x i e) = 1
  count_of (Choice t a b) = 1 + (block_count a + block_count b)
  count_of (Loop t a) = 1 + block_count a

  pub block_count : Block → ℕ
  block_count Nothing = 0
  block_count (Then s rest) = count_of s + block_count rest

-- the first error of the statements of a block, which are numbered from n on, part by part
abbrev mutual
  pub statement_fault : Context → StatementFault → Label → ℕ → Statement → Option TypeError
  statement_fault known fault code n (SetVariable x e) = fault code n (SetVariable x e)
  statement_fault known fault code n (SetElement x i e) = fault code n (SetElement x i e)
  statement_fault known fault code n (Choice t a b) =
      fault code n (Choice t a b)
      or_else block_fault known fault (inside known code t) (n + 1) a
      or_else block_fault known fault (inside known code t) ((n + 1) + block_count a) b
  statement_fault known fault code n (Loop t a) =
      fault code n (Loop t a) or_else block_fault known fault code (n + 1) a

  pub block_fault : Context → StatementFault → Label → ℕ → Block → Option TypeError
  block_fault known fault code n Nothing = None
  block_fault known fault code n (Then s rest) =
      statement_fault known fault code n s or_else block_fault known fault code (n + count_of s) rest
