-- For proofs, and for the clauses `words` of calls, which serve the proofs of callers: the numbers in statements and in
-- blocks are words.
use Rattle.src_tree.specs.Trees.{Statement, SetVariable, SetElement, Choice, Loop, Block, Nothing, Then}
use Rattle.block_cache_gen.specs.TreeWords.{HasWords, TestHasWords}

abbrev mutual
  pub StatementHasWords : Statement → Type 0
  StatementHasWords (SetVariable x e) = HasWords e
  StatementHasWords (SetElement x i e) = HasWords i × HasWords e
  StatementHasWords (Choice t a b) = TestHasWords t × (BlockHasWords a × BlockHasWords b)
  StatementHasWords (Loop t a) = TestHasWords t × BlockHasWords a

  pub BlockHasWords : Block → Type 0
  BlockHasWords Nothing = Unit {0}
  BlockHasWords (Then s rest) = StatementHasWords s × BlockHasWords rest
