-- The numbers in a program are words, as those of every program are.
use Rattle.gr_word.specs.Words.{IsWord}
use Rattle.src_tree.specs.Trees.{Tree, Number, Variable, Element, Operation, Test, Statement, SetVariable, SetElement, Choice, Loop, Block, Nothing, Then}

abbrev pub NumbersFit : Tree → Type 0
NumbersFit (Number z) = IsWord z
NumbersFit (Variable x) = Unit {0}
NumbersFit (Element x i) = NumbersFit i
NumbersFit (Operation op a b) = NumbersFit a × NumbersFit b

abbrev pub TestNumbersFit : Test → Type 0
TestNumbersFit t = NumbersFit t.left × NumbersFit t.right

abbrev mutual
  pub StatementNumbersFit : Statement → Type 0
  StatementNumbersFit (SetVariable x e) = NumbersFit e
  StatementNumbersFit (SetElement x i e) = NumbersFit i × NumbersFit e
  StatementNumbersFit (Choice t a b) = TestNumbersFit t × (BlockNumbersFit a × BlockNumbersFit b)
  StatementNumbersFit (Loop t a) = TestNumbersFit t × BlockNumbersFit a

  pub BlockNumbersFit : Block → Type 0
  BlockNumbersFit Nothing = Unit {0}
  BlockNumbersFit (Then s rest) = StatementNumbersFit s × BlockNumbersFit rest
