-- A number above those of all variables of a term, and of statements.
use Rattle.std.specs.Prelude.{ℕ, suc, max}
use Rattle.flat_tree.specs.Trees.{Term, Number, Scalar, Element, Operation, Select, Statement, Skip, Seq, Set, Put, If, While, Local}

abbrev pub term_bound : Term → ℕ
term_bound (Number z) = 0
term_bound (Scalar k) = suc k
term_bound (Element k i) = max (suc k) (term_bound i)
term_bound (Operation operator a b) = max (term_bound a) (term_bound b)
term_bound (Select c a b) = max (term_bound c) (max (term_bound a) (term_bound b))

abbrev pub bound : Statement → ℕ
bound Skip = 0
bound (Seq a b) = max (bound a) (bound b)
bound (Set k e) = max (suc k) (term_bound e)
bound (Put k i e) = max (suc k) (max (term_bound i) (term_bound e))
bound (If c a b) = max (term_bound c) (max (bound a) (bound b))
bound (While c a) = max (term_bound c) (bound a)
bound (Local k e a) = max (suc k) (max (term_bound e) (bound a))
