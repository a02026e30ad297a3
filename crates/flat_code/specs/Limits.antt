-- Which statements may be written twice, and which terms become variables. No law of the passes depends on these rules.
-- (This project's compiler of modules.)
use Rattle.std.specs.Prelude.{ℕ, ◌-◌, nat_lt, not, ◌&&◌, ◌||◌, Bool, true, false}
use Rattle.module_tree.specs.Operators.{Machine, LogicalShift, Compare, Conjunction, Disjunction}
use Rattle.flat_tree.specs.Trees.{Term, Number, Scalar, Element, Operation, Select, Statement, Skip, Seq, Set, Put, If, While, Local}

-- whether at most n operators and indexes are nested in a term
abbrev pub fits : ℕ → Term → Bool
fits n (Number z) = true
fits n (Scalar k) = true
fits n (Element k i) = nat_lt 0 n && fits (n - 1) i
fits n (Operation operator a b) = nat_lt 0 n && (fits (n - 1) a && fits (n - 1) b)
fits n (Select c a b) = nat_lt 0 n && (fits (n - 1) c && (fits (n - 1) a && fits (n - 1) b))

-- whether a statement is nothing, or an assignment with at most one operator in each term
abbrev pub is_short : Statement → Bool
is_short Skip = true
is_short (Seq a b) = false
is_short (Set k e) = fits 1 e
is_short (Put k i e) = fits 1 i && fits 1 e
is_short (If c a b) = false
is_short (While c a) = false
is_short (Local k e a) = false

-- whether statements may be written twice: all may, or the short ones
abbrev pub light : Bool → Statement → Bool
light all s = all || is_short s

-- whether the outermost part of a term is an expression of the core
abbrev pub is_plain : Term → Bool
is_plain (Number z) = true
is_plain (Scalar k) = true
is_plain (Element k i) = true
is_plain (Operation (Machine op) a b) = true
is_plain (Operation LogicalShift a b) = false
is_plain (Operation (Compare cmp) a b) = false
is_plain (Operation Conjunction a b) = false
is_plain (Operation Disjunction a b) = false
is_plain (Select c a b) = false

-- Whether a term becomes a variable: the core lacks it, or it is high. The core allows a height of 16, to which `>>>`
-- adds up to 4.
abbrev pub needs_name : Term → Bool
needs_name e = not (is_plain e) || not (fits 10 e)
