-- Flat trees without pointers, as contracts see owned trees. (An intermediate form of this project's compiler of
-- modules.)
use Rattle.std.specs.Prelude.{List, map}
use Rattle.flat_code.specs.declared.trees.Term.{Term}
use Rattle.flat_code.specs.declared.trees.Flat.{Flat}
use Rattle.module_tree.specs.Operators.{Operator, Machine, LogicalShift, Compare, Conjunction, Disjunction}
use Rattle.flat_tree.specs.Trees as tree
use Rattle.flat_code.specs.declared.trees.Operator as owned
use Rattle.flat_code.specs.declared.trees.Operator.TheVariants as sign
use Rattle.flat_code.specs.declared.trees.Term.TheVariants as term
use Rattle.flat_code.specs.declared.trees.Flat.TheVariants as flat

abbrev pub operator_of : owned.Operator → Operator
operator_of (sign.Machine op) = Machine op
operator_of sign.LogicalShift = LogicalShift
operator_of (sign.Compare cmp) = Compare cmp
operator_of sign.Conjunction = Conjunction
operator_of sign.Disjunction = Disjunction

-- the tree of a term
abbrev pub term_of : Term → tree.Term
term_of (term.Num z) = tree.Number z
term_of (term.Var k) = tree.Scalar k
term_of (term.Item' k p i) = tree.Element k (term_of i)
term_of (term.Bin' o p a q b) = tree.Operation (operator_of o) (term_of a) (term_of b)
term_of (term.Select' p c q a r b) = tree.Select (term_of c) (term_of a) (term_of b)

-- the tree of a statement
abbrev pub statement_of : Flat → tree.Statement
statement_of flat.Skip = tree.Skip
statement_of (flat.Seq' p a q b) = tree.Seq (statement_of a) (statement_of b)
statement_of (flat.Set k e) = tree.Set k (term_of e)
statement_of (flat.Put k i e) = tree.Put k (term_of i) (term_of e)
statement_of (flat.If' c p a q b) = tree.If (term_of c) (statement_of a) (statement_of b)
statement_of (flat.While' c p a) = tree.While (term_of c) (statement_of a)
statement_of (flat.Local' k e p a) = tree.Local k (term_of e) (statement_of a)

-- the trees of several terms
abbrev pub terms_of : List Term → List tree.Term
terms_of = map term_of
