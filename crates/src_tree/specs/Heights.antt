-- The height of an expression (this project's profile).
use Rattle.std.specs.Prelude.{ℕ, ◌+◌, max}
use Rattle.src_tree.specs.Trees.{Tree, Number, Variable, Element, Operation}

-- 1 for a number or a variable, and otherwise 1 more than that of the highest operand or index
abbrev pub height_of : Tree → ℕ
height_of (Number z) = 1
height_of (Variable x) = 1
height_of (Element x i) = height_of i + 1
height_of (Operation op a b) = max (height_of a) (height_of b) + 1
