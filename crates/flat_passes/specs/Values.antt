-- Expressions that the core lacks become new variables: `x = v[a < b] + 1;` becomes `int t = a < b; x = v[t] + 1;`. A
-- loop whose test needs such variables computes them again at the end of its body. The new variables have numbers from n
-- on, in each statement anew. A test on terms decides which terms become variables, so that neither heights nor limits
-- matter to the proof. `>>>` becomes operations of the machine. (A pass of this project's compiler of modules.)
use Rattle.std.specs.Prelude.{ℕ, ◌+◌, pos, not, Bool, true, false, if◌then◌else◌, List, [], ◌∷◌, ◌++◌, length}
use Rattle.gr_word.specs.declared.operations.Cmp.TheVariants.{Ne}
use Rattle.module_tree.specs.Operators.{LogicalShift, Compare, Conjunction, Disjunction}
use Rattle.flat_tree.specs.Trees.{Term, Number, Scalar, Element, Operation, Select, Statement, Skip, Seq, Set, Put, If, While, Local}
use Rattle.flat_passes.specs.Shifts.{shifted}

-- the values of new variables, in order, and the term that is left
pub record Hoisted : Type 0 where
  pub before : List Term
  pub term : Term

abbrev pub only : Term → Hoisted
only e = record { before = []; term = e }

-- with more variables before
abbrev pub after : List Term → Hoisted → Hoisted
after es h = record { before = es ++ h.before; term = h.term }

-- a term that becomes a variable if that is wanted
abbrev pub named_if : Bool → ℕ → Hoisted → Hoisted
named_if wanted n h =
    if wanted then record { before = h.before ++ h.term ∷ []; term = Scalar (n + length h.before) } else h

-- whether a term is a number or a scalar
abbrev pub is_leaf : Term → Bool
is_leaf (Number z) = true
is_leaf (Scalar k) = true
is_leaf e = false

-- two terms in order, joined
abbrev pub two : (Term → Term → Term) → ℕ → Hoisted → (ℕ → Hoisted) → Hoisted
two f n h second =
    let k = second (n + length h.before) in record { before = h.before ++ k.before; term = f h.term k.term }

module _ (needs_name : Term → Bool) where
  -- a term that becomes a variable if the test says so
  abbrev pub named : ℕ → Hoisted → Hoisted
  named n h = named_if (needs_name h.term) n h

  -- An expression. The operands of `&&`, `||` and `? :` may stay conditions. The count of `>>>` appears twice, so it
  -- becomes a variable unless it is a leaf.
  abbrev pub hoisted : Term → ℕ → Hoisted
  hoisted (Number z) n = only (Number z)
  hoisted (Scalar k) n = only (Scalar k)
  hoisted (Element k i) n =
      let h = named n (hoisted i n) in record { before = h.before; term = Element k h.term }
  hoisted (Operation Conjunction a b) n = two (Operation Conjunction) n (hoisted a n) (hoisted b)
  hoisted (Operation Disjunction a b) n = two (Operation Disjunction) n (hoisted a n) (hoisted b)
  hoisted (Operation LogicalShift a b) n =
      two shifted n (named n (hoisted a n))
      (λ k. let h = hoisted b k in named_if (not (is_leaf h.term)) k h)
  hoisted (Operation operator a b) n =
      two (Operation operator) n (named n (hoisted a n)) (λ k. named k (hoisted b k))
  hoisted (Select c a b) n =
      let h = hoisted c n in
      after h.before (two (Select h.term) (n + length h.before) (hoisted a (n + length h.before)) (hoisted b))

  abbrev pub value_of : ℕ → Term → Hoisted
  value_of n e = named n (hoisted e n)

  -- a condition: a comparison stays one, and any other expression is compared with 0
  abbrev pub tested : ℕ → Hoisted → Term → Hoisted
  tested n h (Operation (Compare cmp) a b) = h
  tested n h _ =
      let k = named n h in
      record { before = k.before; term = Operation (Compare Ne) k.term (Number (pos 0)) }

  abbrev pub test_of : ℕ → Term → Hoisted
  test_of n c = tested n (hoisted c n) (hoisted c n).term

  abbrev pub with_locals : ℕ → List Term → Statement → Statement
  with_locals n [] s = s
  with_locals n (e ∷ es) s = Local n e (with_locals (n + 1) es s)

  abbrev pub set_again : ℕ → List Term → Statement
  set_again n [] = Skip
  set_again n (e ∷ es) = Seq (Set n e) (set_again (n + 1) es)

  abbrev pub values : ℕ → Statement → Statement
  values n Skip = Skip
  values n (Seq a b) = Seq (values n a) (values n b)
  values n (Set k e) = with_locals n (value_of n e).before (Set k (value_of n e).term)
  values n (Put k i e) =
      let h = value_of n e in
      let g = value_of (n + length h.before) i in
      with_locals n (h.before ++ g.before) (Put k g.term h.term)
  values n (If c a b) =
      with_locals n (test_of n c).before (If (test_of n c).term (values n a) (values n b))
  values n (While c a) =
      with_locals n (test_of n c).before
      (While (test_of n c).term (Seq (values n a) (set_again n (test_of n c).before)))
  values n (Local k e a) = with_locals n (value_of n e).before (Local k (value_of n e).term (values n a))
