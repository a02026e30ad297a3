-- What is left of a term, without pointers. (This file is only for private clauses.)
use Rattle.std.specs.Prelude.{ℕ, ◌++◌, not, Bool, true, false}
use Rattle.flat_tree.specs.Trees.{Term, Operation}
use Rattle.module_tree.specs.Operators.{Operator, Machine, LogicalShift, Compare, Conjunction, Disjunction}
use Rattle.flat_passes.specs.Shifts.{shifted}
use Rattle.flat_passes.specs.Values.{Hoisted, is_leaf, named, named_if}
use Rattle.flat_code.specs.Limits.{needs_name}
use Rattle.flat_code.specs.Owned.{term_of, terms_of}
use Rattle.flat_code.specs.declared.hoisting.Hoisted as owned

abbrev pub hoisted_of : owned.Hoisted → Hoisted
hoisted_of h = record { before = terms_of h.before.items; term = term_of h.term }

-- what is left of two terms, joined
abbrev pub both : (Term → Term → Term) → Hoisted → Hoisted → Hoisted
both f h g = record { before = h.before ++ g.before; term = f h.term g.term }

-- the first operand, which may stay a condition under `&&` and `||`
abbrev pub operand : Operator → ℕ → Hoisted → Hoisted
operand (Machine op) n h = named needs_name n h
operand LogicalShift n h = named needs_name n h
operand (Compare cmp) n h = named needs_name n h
operand Conjunction n h = h
operand Disjunction n h = h

-- an operator with its operands, of which the second has variables from number k on
abbrev pub connected : Operator → ℕ → Hoisted → Hoisted → Hoisted
connected (Machine op) k h g = both (Operation (Machine op)) h (named needs_name k g)
connected LogicalShift k h g = both shifted h (named_if (not (is_leaf g.term)) k g)
connected (Compare cmp) k h g = both (Operation (Compare cmp)) h (named needs_name k g)
connected Conjunction k h g = both (Operation Conjunction) h g
connected Disjunction k h g = both (Operation Disjunction) h g

abbrev pub is_comparison : Term → Bool
is_comparison (Operation (Compare cmp) a b) = true
is_comparison e = false
