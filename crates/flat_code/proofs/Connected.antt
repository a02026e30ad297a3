-- What is left of an operator with its operands, in one equation for all operators.
use Rattle.std.proofs.Common.{◌≡◌, ℕ, ◌+◌, length, refl, sym, ap, ◌∙◌}
use Rattle.flat_tree.specs.Trees.{Term, Operation}
use Rattle.module_tree.specs.Operators.{Operator, Machine, LogicalShift, Compare, Conjunction, Disjunction}
use Rattle.flat_passes.specs.Values.{Hoisted, hoisted}
use Rattle.flat_code.specs.Limits.{needs_name}
use Rattle.flat_code.specs.Hoisting.{connected, operand}

abbrev connected_first : Operator → Term → ℕ → Hoisted → Hoisted
connected_first operator b n h =
    connected operator (n + length h.before) h (hoisted needs_name b (n + length h.before))

hoisted_first : (operator : Operator) (a b : Term) (n : ℕ)
    → hoisted needs_name (Operation operator a b) n
    ≡ connected_first operator b n (operand operator n (hoisted needs_name a n))
hoisted_first (Machine op) a b n = refl
hoisted_first LogicalShift a b n = refl
hoisted_first (Compare cmp) a b n = refl
hoisted_first Conjunction a b n = refl
hoisted_first Disjunction a b n = refl

pub hoisted_operation : (operator : Operator) (a b : Term) (n k : ℕ) (h : Hoisted)
    → operand operator n (hoisted needs_name a n) ≡ h → k ≡ n + length h.before
    → hoisted needs_name (Operation operator a b) n ≡ connected operator k h (hoisted needs_name b k)
hoisted_operation operator a b n k h is number =
    hoisted_first operator a b n
    ∙ ap (connected_first operator b n) is
    ∙ ap (λ j. connected operator j h (hoisted needs_name b j)) (sym number)
