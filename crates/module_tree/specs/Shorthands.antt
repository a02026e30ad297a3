-- The trees of `-e`, `~e`, `!e`, `x op= e`, `v[i] op= e`, `while` and `for`, which are other trees in short. Three more
-- need no definition: `else if` is a block with one choice, `x++` is `x += 1`, and a missing condition is 1. (The language
-- of modules is this project's own.)
use Rattle.std.specs.Prelude.{ℕ, pos, negsuc, List}
use Rattle.gr_word.specs.declared.operations.Op.TheVariants.{Sub, Xor}
use Rattle.gr_word.specs.declared.operations.Cmp.TheVariants.{Eq}
use Rattle.module_tree.specs.Operators.{Operator, Machine, Compare}
use Rattle.module_tree.specs.Trees.{Expression, Number, Named, Element, Operation, Statement, SetVariable, SetElement, Loop, Block, Nothing, Then, Nested}

abbrev pub negated : Expression → Expression
negated e = Operation (Machine Sub) (Number (pos 0)) e

abbrev pub flipped : Expression → Expression
flipped e = Operation (Machine Xor) e (Number (negsuc 0))

abbrev pub refuted : Expression → Expression
refuted e = Operation (Compare Eq) e (Number (pos 0))

abbrev pub variable_by : Operator → List ℕ → Expression → Statement
variable_by operator x e = SetVariable x (Operation operator (Named x) e)

abbrev pub element_by : Operator → List ℕ → Expression → Expression → Statement
element_by operator x i e = SetElement x i (Operation operator (Element x i) e)

abbrev pub while_loop : Expression → Block → Statement
while_loop test body = Loop test body Nothing

-- the test, the body and the step of a `for` see what its head declares
abbrev pub for_loop : Statement → Expression → Block → Block → Statement
for_loop first test step body = Nested (Then first (Then (Loop test body step) Nothing))
