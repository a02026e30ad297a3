-- The height of an expression is at least 1.
use Rattle.std.proofs.Common.{◌≤◌, arith}
use Rattle.src_tree.specs.Prelude.{height_of, Tree, Number, Variable, Element, Operation}

pub height-some : (e : Tree) → 1 ≤ height_of e
height-some (Number z) = omega arith
height-some (Variable x) = omega arith
height-some (Element x i) = omega arith
height-some (Operation op a b) = omega arith
