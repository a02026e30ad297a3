-- The variables of statements have numbers below their bound.
use Rattle.std.proofs.Common.{ℕ, ◌≤◌, arith}
use Rattle.flat_tree.specs.Trees.{Term, Number, Scalar, Element, Operation, Select, Statement, Skip, Seq, Set, Put, If, While, Local}
use Rattle.flat_tree.specs.Keeps.{TermBelow, Below}
use Rattle.flat_tree.specs.Bounds.{term_bound, bound}

pub term_below : (p : ℕ) (e : Term) → term_bound e ≤ p → TermBelow p e
term_below p (Number z) le = tt
term_below p (Scalar k) le = omega (arith, le)
term_below p (Element k i) le = (omega (arith, le), term_below p i (omega (arith, le)))
term_below p (Operation operator a b) le = (term_below p a (omega (arith, le)), term_below p b (omega (arith, le)))
term_below p (Select c a b) le =
    (term_below p c (omega (arith, le)), term_below p a (omega (arith, le)), term_below p b (omega (arith, le)))

pub all_below : (p : ℕ) (s : Statement) → bound s ≤ p → Below p s
all_below p Skip le = tt
all_below p (Seq a b) le = (all_below p a (omega (arith, le)), all_below p b (omega (arith, le)))
all_below p (Set k e) le = (omega (arith, le), term_below p e (omega (arith, le)))
all_below p (Put k i e) le =
    (omega (arith, le), term_below p i (omega (arith, le)), term_below p e (omega (arith, le)))
all_below p (If c a b) le =
    (term_below p c (omega (arith, le)), all_below p a (omega (arith, le)), all_below p b (omega (arith, le)))
all_below p (While c a) le = (term_below p c (omega (arith, le)), all_below p a (omega (arith, le)))
all_below p (Local k e a) le =
    (omega (arith, le), term_below p e (omega (arith, le)), all_below p a (omega (arith, le)))
