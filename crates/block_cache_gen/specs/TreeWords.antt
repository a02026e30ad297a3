-- The numbers in an expression, a guard or an assignment are words, as those of every program are. (This project's
-- profile.)
use Rattle.gr_word.specs.Words.{IsWord}
use Rattle.src_tree.specs.Trees.{Tree, Number, Variable, Element, Operation, Test, Statement, SetVariable, SetElement, Choice, Loop}

abbrev pub HasWords : Tree → Type 0
HasWords (Number z) = IsWord z
HasWords (Variable x) = Unit {0}
HasWords (Element x i) = HasWords i
HasWords (Operation op a b) = HasWords a × HasWords b

abbrev pub TestHasWords : Test → Type 0
TestHasWords t = HasWords t.left × HasWords t.right

abbrev pub SetHasWords : Statement → Type 0
SetHasWords (SetVariable x e) = HasWords e
SetHasWords (SetElement x i e) = HasWords i × HasWords e
SetHasWords (Choice t a b) = Unit {0}
SetHasWords (Loop t a) = Unit {0}
