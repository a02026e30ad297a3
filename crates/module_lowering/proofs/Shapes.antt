-- The shape theorem: after the passes all statements have only forms of the core.
use Rattle.std.proofs.Common.{◌≡◌, ℕ, ◌+◌, ◌≤◌, inl, Bool, true, false, if◌then◌else◌, pos, List, [], ◌∷◌, ◌++◌, length, refl, sym, ap, ◌∙◌, subst, arith}
use Rattle.std.specs.Prelude.{◌==◌, ◌||◌, not}
use Rattle.std.proofs.lemmas.Bool.{ne_eqb}
use Rattle.std.proofs.lemmas.List.{length-append}
use Rattle.module_tree.specs.Operators.{Machine, LogicalShift, Compare, Conjunction, Disjunction}
use Rattle.flat_tree.specs.Trees.{Term, Number, Scalar, Element, Operation, Select, Statement, Skip, Seq, Set, Put, If, While, Local}
use Rattle.flat_tree.specs.Keeps.{TermBelow, Below, reads}
use Rattle.flat_tree.proofs.Bounds.{all_below}
use Rattle.flat_core.specs.Core.{InScope, Readable, Settable, CoreTerm, CoreTest, CoreStatement}
use Rattle.flat_passes.specs.Conditions.{choice, assigned, declared, with_local, conditions}
use Rattle.flat_passes.specs.Shifts.{shifted}
use Rattle.flat_passes.specs.Values.{Hoisted, named_if, is_leaf, named, two, hoisted, value_of, tested, test_of, with_locals, set_again, values}
use Rattle.module_lowering.specs.Lowering.{above, prepared}
use Rattle.module_lowering.specs.Shape.{ScopedTerm, Scoped, depth, IsPlain, NamesTheRest}
use Rattle.module_lowering.proofs.Scopes.{Inside, inside_same, inside_then, inside_more, inside_both, statement_larger, term_larger, core_larger, conditions_scoped}

-- each condition becomes choices, regardless of its weight
abbrev all_light : Statement → Bool
all_light s = true

unread : (k : ℕ) (e : Term) → TermBelow k e → reads k e ≡ false
unread k (Number z) below = refl
unread k (Scalar j) below = ne_eqb j k (λ e. omega (arith, below, e))
unread k (Element j i) below = neither (j == k) (reads k i) (ne_eqb j k (λ e. let lt = below.0 in omega (arith, lt, e))) (unread k i below.1)
  where
    neither : (a b : Bool) → a ≡ false → b ≡ false → (a || b) ≡ false
    neither true b e f = absurd (let g : true ≡ false = e in cc)
    neither false b e f = f
unread k (Operation operator a b) below = neither (reads k a) (reads k b) (unread k a below.0) (unread k b below.1)
  where
    neither : (a b : Bool) → a ≡ false → b ≡ false → (a || b) ≡ false
    neither true b e f = absurd (let g : true ≡ false = e in cc)
    neither false b e f = f
unread k (Select c a b) below =
    neither (reads k c) (reads k a) (reads k b) (unread k c below.0) (unread k a below.1) (unread k b below.2)
  where
    neither : (a b c : Bool) → a ≡ false → b ≡ false → c ≡ false → (a || (b || c)) ≡ false
    neither true b c e f g = absurd (let h : true ≡ false = e in cc)
    neither false true c e f g = absurd (let h : true ≡ false = f in cc)
    neither false false c e f g = g

below_more : {n p : ℕ} → n ≤ p → (e : Term) → TermBelow n e → TermBelow p e
below_more le (Number z) below = tt
below_more le (Scalar k) below = omega (arith, le, below)
below_more le (Element k i) below = (let lt = below.0 in omega (arith, le, lt), below_more le i below.1)
below_more le (Operation operator a b) below = (below_more le a below.0, below_more le b below.1)
below_more le (Select c a b) below = (below_more le c below.0, below_more le a below.1, below_more le b below.2)

-- the scope under new variables
abbrev grown : ℕ → List Term → List ℕ → List ℕ
grown n [] scope = scope
grown n (e ∷ es) scope = grown (n + 1) es (n ∷ scope)

grown_more : (n : ℕ) (es fs : List Term) (scope : List ℕ) → grown n (es ++ fs) scope ≡ grown (n + length es) fs (grown n es scope)
grown_more n [] fs scope = ap (λ k. grown k fs scope) (let e : n ≡ n + 0 = omega arith in e)
grown_more n (e ∷ es) fs scope =
    grown_more (n + 1) es fs (n ∷ scope)
    ∙ ap (λ k. grown k fs (grown (n + 1) es (n ∷ scope))) (let same : n + 1 + length es ≡ n + length (e ∷ es) = omega arith in same)

grown_inside : {all : ℕ} (n : ℕ) (es : List Term) (scope : List ℕ) → Inside all scope (grown n es scope)
grown_inside {all} n [] scope = inside_same all scope
grown_inside {all} n (e ∷ es) scope =
    inside_then (inside_more n (inside_same all scope)) (grown_inside (n + 1) es (n ∷ scope))

module _ (all : ℕ) (is_scalar : ℕ → Bool) where
  -- statements of the core, regardless of how many locals are active
  abbrev CoreShape : List ℕ → Statement → Type 0
  CoreShape scope Skip = Unit {0}
  CoreShape scope (Seq a b) = CoreShape scope a × CoreShape scope b
  CoreShape scope (Set k e) = Settable all is_scalar scope k × CoreTerm all is_scalar scope e
  CoreShape scope (Put k i e) =
      Readable all is_scalar scope k × CoreTerm all is_scalar scope i × CoreTerm all is_scalar scope e
  CoreShape scope (If c a b) = CoreTest all is_scalar scope c × CoreShape scope a × CoreShape scope b
  CoreShape scope (While c a) = CoreTest all is_scalar scope c × CoreShape scope a
  CoreShape scope (Local k e a) = CoreTerm all is_scalar scope e × CoreShape (k ∷ scope) a

  deep_enough : (most : ℕ) (scope : List ℕ) (s : Statement) → CoreShape scope s → length scope + depth s ≤ most
      → CoreStatement all is_scalar most scope s
  deep_enough most scope Skip is le = tt
  deep_enough most scope (Seq a b) is le =
      (deep_enough most scope a is.0 (omega (arith, le)), deep_enough most scope b is.1 (omega (arith, le)))
  deep_enough most scope (Set k e) is le = is
  deep_enough most scope (Put k i e) is le = is
  deep_enough most scope (If c a b) is le = (
    is.0,
    deep_enough most scope a is.1 (omega (arith, le)),
    deep_enough most scope b is.2 (omega (arith, le)),
  )
  deep_enough most scope (While c a) is le = (is.0, deep_enough most scope a is.1 le)
  deep_enough most scope (Local k e a) is le =
      (omega (arith, le), is.0, deep_enough most (k ∷ scope) a is.1 (omega (arith, le)))

  -- a condition over terms of the core, or a term of the core
  abbrev Condition : List ℕ → Term → Type 0
  Condition scope (Operation (Compare cmp) a b) = CoreTerm all is_scalar scope a × CoreTerm all is_scalar scope b
  Condition scope (Operation Conjunction a b) = Condition scope a × Condition scope b
  Condition scope (Operation Disjunction a b) = Condition scope a × Condition scope b
  Condition scope (Select c a b) = Condition scope c × Condition scope a × Condition scope b
  Condition scope e = CoreTerm all is_scalar scope e

  condition_larger : {scope larger : List ℕ} → Inside all scope larger → (e : Term) → Condition scope e → Condition larger e
  condition_larger f (Operation (Compare cmp) a b) is =
      (core_larger all is_scalar f a is.0, core_larger all is_scalar f b is.1)
  condition_larger f (Operation Conjunction a b) is = (condition_larger f a is.0, condition_larger f b is.1)
  condition_larger f (Operation Disjunction a b) is = (condition_larger f a is.0, condition_larger f b is.1)
  condition_larger f (Select c a b) is =
      (condition_larger f c is.0, condition_larger f a is.1, condition_larger f b is.2)
  condition_larger f e is = core_larger all is_scalar f e is

  core_condition : (scope : List ℕ) (e : Term) → CoreTerm all is_scalar scope e → Condition scope e
  core_condition scope (Operation (Compare cmp) a b) is = absurd is
  core_condition scope (Operation Conjunction a b) is = absurd is
  core_condition scope (Operation Disjunction a b) is = absurd is
  core_condition scope (Select c a b) is = absurd is
  core_condition scope e is = is

  plain_core : (scope : List ℕ) (e : Term) → IsPlain e → Condition scope e → CoreTerm all is_scalar scope e
  plain_core scope (Operation (Compare cmp) a b) plain is = absurd plain
  plain_core scope (Operation Conjunction a b) plain is = absurd plain
  plain_core scope (Operation Disjunction a b) plain is = absurd plain
  plain_core scope (Select c a b) plain is = absurd plain
  plain_core scope e plain is = is

  -- choices, and statements whose values are conditions
  choice_shape : (scope : List ℕ) (c : Term) (a b : Statement) → Condition scope c → CoreShape scope a → CoreShape scope b
      → CoreShape scope (choice all_light c a b)
  choice_shape scope (Operation Conjunction p q) a b is one other =
      choice_shape scope p (choice all_light q a b) b is.0 (choice_shape scope q a b is.1 one other) other
  choice_shape scope (Operation Disjunction p q) a b is one other =
      choice_shape scope p a (choice all_light q a b) is.0 one (choice_shape scope q a b is.1 one other)
  choice_shape scope (Select c x y) a b is one other =
      choice_shape scope c (choice all_light x a b) (choice all_light y a b) is.0 (choice_shape scope x a b is.1 one other)
      (choice_shape scope y a b is.2 one other)
  choice_shape scope c a b is one other = (is, one, other)

  assigned_shape : (scope : List ℕ) (k : ℕ) (e : Term) → Settable all is_scalar scope k → Condition scope e
      → CoreShape scope (assigned all_light k e)
  assigned_shape scope k (Select c a b) set is =
      choice_shape scope c (assigned all_light k a) (assigned all_light k b) is.0 (assigned_shape scope k a set is.1)
      (assigned_shape scope k b set is.2)
  assigned_shape scope k (Operation (Compare cmp) a b) set is =
      choice_shape scope (Operation (Compare cmp) a b) (Set k (Number (pos 1))) (Set k (Number (pos 0))) is (set, tt)
      (set, tt)
  assigned_shape scope k (Operation Conjunction a b) set is =
      choice_shape scope (Operation Conjunction a b) (Set k (Number (pos 1))) (Set k (Number (pos 0))) is (set, tt)
      (set, tt)
  assigned_shape scope k (Operation Disjunction a b) set is =
      choice_shape scope (Operation Disjunction a b) (Set k (Number (pos 1))) (Set k (Number (pos 0))) is (set, tt)
      (set, tt)
  assigned_shape scope k e set is = (set, is)

  declared_shape : (scope : List ℕ) (k : ℕ) (e : Term) (body : Statement) → Condition scope e → TermBelow k e
      → CoreShape (k ∷ scope) body → CoreShape scope (declared all_light k e body)
  declared_shape scope k e body is below more =
      subst (λ x. CoreShape scope (if x then Local k e body
      else Local k (Number (pos 0)) (Seq (assigned all_light k e) body))) (sym (unread k e below)) (
        tt,
        (assigned_shape (k ∷ scope) k e (inl refl) (condition_larger (inside_more k (inside_same all scope)) e is), more),
      )

  local_shape : (scope : List ℕ) (k : ℕ) (e : Term) (body : Statement) → Condition scope e → TermBelow k e
      → CoreShape (k ∷ scope) body → CoreShape scope (with_local all_light k e body)
  local_shape scope k (Select c a b) body is below more = declared_shape scope k (Select c a b) body is below more
  local_shape scope k (Operation (Compare cmp) a b) body is below more =
      declared_shape scope k (Operation (Compare cmp) a b) body is below more
  local_shape scope k (Operation Conjunction a b) body is below more =
      declared_shape scope k (Operation Conjunction a b) body is below more
  local_shape scope k (Operation Disjunction a b) body is below more =
      declared_shape scope k (Operation Disjunction a b) body is below more
  local_shape scope k e body is below more = (is, more)

  core_local_shape : (scope : List ℕ) (k : ℕ) (e : Term) (body : Statement) → CoreTerm all is_scalar scope e
      → CoreShape (k ∷ scope) body → CoreShape scope (with_local all_light k e body)
  core_local_shape scope k (Select c a b) body is more = absurd is
  core_local_shape scope k (Operation (Compare cmp) a b) body is more = absurd is
  core_local_shape scope k (Operation Conjunction a b) body is more = absurd is
  core_local_shape scope k (Operation Disjunction a b) body is more = absurd is
  core_local_shape scope k e body is more = (is, more)

  -- new variables, each of which is a condition over those before
  abbrev Conditions : List ℕ → ℕ → List Term → Type 0
  Conditions scope n [] = Unit {0}
  Conditions scope n (e ∷ es) = Condition scope e × TermBelow n e × Conditions (n ∷ scope) (n + 1) es

  conditions_joined : (scope : List ℕ) (n : ℕ) (es fs : List Term) → Conditions scope n es
      → Conditions (grown n es scope) (n + length es) fs → Conditions scope n (es ++ fs)
  conditions_joined scope n [] fs one other =
      subst (λ k. Conditions scope k fs) (let e : n + 0 ≡ n = omega arith in e) other
  conditions_joined scope n (e ∷ es) fs one other = (
    one.0,
    one.1,
    conditions_joined (n ∷ scope) (n + 1) es fs one.2
        (subst (λ k. Conditions (grown (n + 1) es (n ∷ scope)) k fs)
        (let same : n + length (e ∷ es) ≡ n + 1 + length es = omega arith in same) other),
  )

  record Good (scope : List ℕ) (n : ℕ) (h : Hoisted) : Type 0 where
    before : Conditions scope n h.before
    term : Condition (grown n h.before scope) h.term
    below : TermBelow (n + length h.before) h.term

  record GoodValue (scope : List ℕ) (n : ℕ) (h : Hoisted) : Type 0 where
    before : Conditions scope n h.before
    term : CoreTerm all is_scalar (grown n h.before scope) h.term
    below : TermBelow (n + length h.before) h.term

  as_good : (scope : List ℕ) (n : ℕ) (h : Hoisted) → GoodValue scope n h → Good scope n h
  as_good scope n h g = record {
    before = g.before;
    term = core_condition (grown n h.before scope) h.term g.term;
    below = g.below;
  }

  -- a term that becomes a variable, or is one of the core anyway
  named_value : (scope : List ℕ) (n : ℕ) (h : Hoisted) (wanted : Bool) → (wanted ≡ false → IsPlain h.term)
      → Good scope n h → GoodValue scope n (named_if wanted n h)
  named_value scope n h true plain g =
      let k = n + length h.before in
      let long = length-append h.before (h.term ∷ []) in
      record {
        before = conditions_joined scope n h.before (h.term ∷ []) g.before (g.term, g.below, tt);
        term =
            subst (λ inner. InScope all (λ j. Unit {0}) inner k) (sym (grown_more n h.before (h.term ∷ []) scope))
            (inl refl);
        below = omega (arith, long);
      }
  named_value scope n h false plain g = record {
    before = g.before;
    term = plain_core (grown n h.before scope) h.term (plain refl) g.term;
    below = g.below;
  }

  -- two terms in order
  both_good : (f : Term → Term → Term) (scope : List ℕ) (n : ℕ) (h : Hoisted) (second : ℕ → Hoisted)
      → Conditions scope n h.before
      → Conditions (grown n h.before scope) (n + length h.before) (second (n + length h.before)).before
      → Condition (grown (n + length h.before) (second (n + length h.before)).before (grown n h.before scope))
      (f h.term (second (n + length h.before)).term)
      → TermBelow (n + length h.before + length (second (n + length h.before)).before)
      (f h.term (second (n + length h.before)).term)
      → Good scope n (two f n h second)
  both_good f scope n h second one other term below =
      let k = second (n + length h.before) in
      let long = length-append h.before k.before in
      record {
        before = conditions_joined scope n h.before k.before one other;
        term =
            subst (λ inner. Condition inner (f h.term k.term)) (sym (grown_more n h.before k.before scope)) term;
        below = below_more (omega (arith, long)) (f h.term k.term) below;
      }

  module _ (needs_name : Term → Bool) (plain : NamesTheRest needs_name) where
    abbrev counted : Term → ℕ → Hoisted
    counted b k = named_if (not (is_leaf (hoisted needs_name b k).term)) k (hoisted needs_name b k)

    leaf_plain : (e : Term) → not (is_leaf e) ≡ false → IsPlain e
    leaf_plain (Number z) is = tt
    leaf_plain (Scalar k) is = tt
    leaf_plain (Element k i) is = tt
    leaf_plain (Operation operator a b) is = absurd (let f : true ≡ false = is in cc)
    leaf_plain (Select c a b) is = absurd (let f : true ≡ false = is in cc)

    named_good : (scope : List ℕ) (n : ℕ) (h : Hoisted) → Good scope n h → GoodValue scope n (named needs_name n h)
    named_good scope n h g = named_value scope n h (needs_name h.term) (plain h.term) g

    hoisted_good : (e : Term) (scope : List ℕ) (n : ℕ) → ScopedTerm all is_scalar scope e → TermBelow n e
        → Good scope n (hoisted needs_name e n)
    hoisted_good (Number z) scope n is below = record { before = tt; term = tt; below = tt }
    hoisted_good (Scalar k) scope n is below = record { before = tt; term = is; below = omega (arith, below) }
    hoisted_good (Element k i) scope n is below =
        let h = named needs_name n (hoisted needs_name i n) in
        let g = named_good scope n (hoisted needs_name i n) (hoisted_good i scope n is.1 below.1) in
        record {
          before = g.before;
          term = ((grown_inside n h.before scope).grows (λ j. Unit {0}) k is.0, g.term);
          below = (let lt = below.0 in omega (arith, lt), g.below);
        }
    hoisted_good (Operation Conjunction a b) scope n is below =
        let h = hoisted needs_name a n in
        let m = n + length h.before in
        let k = hoisted needs_name b m in
        let g = hoisted_good a scope n is.0 below.0 in
        let inner = grown n h.before scope in
        let q = hoisted_good b inner m (term_larger all is_scalar (grown_inside n h.before scope) b is.1)
        (below_more (omega arith) b below.1) in
        both_good (Operation Conjunction) scope n h (hoisted needs_name b) g.before q.before
        (condition_larger (grown_inside m k.before inner) h.term g.term, q.term)
        (below_more (omega arith) h.term g.below, q.below)
    hoisted_good (Operation Disjunction a b) scope n is below =
        let h = hoisted needs_name a n in
        let m = n + length h.before in
        let k = hoisted needs_name b m in
        let g = hoisted_good a scope n is.0 below.0 in
        let inner = grown n h.before scope in
        let q = hoisted_good b inner m (term_larger all is_scalar (grown_inside n h.before scope) b is.1)
        (below_more (omega arith) b below.1) in
        both_good (Operation Disjunction) scope n h (hoisted needs_name b) g.before q.before
        (condition_larger (grown_inside m k.before inner) h.term g.term, q.term)
        (below_more (omega arith) h.term g.below, q.below)
    hoisted_good (Operation LogicalShift a b) scope n is below =
        let h = named needs_name n (hoisted needs_name a n) in
        let m = n + length h.before in
        let k = counted b m in
        let g = named_good scope n (hoisted needs_name a n) (hoisted_good a scope n is.0 below.0) in
        let inner = grown n h.before scope in
        let c = hoisted needs_name b m in
        let q = named_value inner m c (not (is_leaf c.term)) (leaf_plain c.term)
        (hoisted_good b inner m (term_larger all is_scalar (grown_inside n h.before scope) b is.1)
        (below_more (omega arith) b below.1)) in
        let one = core_larger all is_scalar (grown_inside m k.before inner) h.term g.term in
        let low = below_more {p = m + length k.before} (omega arith) h.term g.below in
        both_good shifted scope n h (counted b) g.before q.before
        ((one, q.term), (((tt, q.term), tt), tt))
        ((low, q.below), (((tt, q.below), tt), tt))
    hoisted_good (Operation (Machine op) a b) scope n is below =
        let h = named needs_name n (hoisted needs_name a n) in
        let m = n + length h.before in
        let k = named needs_name m (hoisted needs_name b m) in
        let g = named_good scope n (hoisted needs_name a n) (hoisted_good a scope n is.0 below.0) in
        let inner = grown n h.before scope in
        let q = named_good inner m (hoisted needs_name b m)
        (hoisted_good b inner m (term_larger all is_scalar (grown_inside n h.before scope) b is.1)
        (below_more (omega arith) b below.1)) in
        both_good (Operation (Machine op)) scope n h (λ j. named needs_name j (hoisted needs_name b j)) g.before q.before
        (core_larger all is_scalar (grown_inside m k.before inner) h.term g.term, q.term)
        (below_more (omega arith) h.term g.below, q.below)
    hoisted_good (Operation (Compare cmp) a b) scope n is below =
        let h = named needs_name n (hoisted needs_name a n) in
        let m = n + length h.before in
        let k = named needs_name m (hoisted needs_name b m) in
        let g = named_good scope n (hoisted needs_name a n) (hoisted_good a scope n is.0 below.0) in
        let inner = grown n h.before scope in
        let q = named_good inner m (hoisted needs_name b m)
        (hoisted_good b inner m (term_larger all is_scalar (grown_inside n h.before scope) b is.1)
        (below_more (omega arith) b below.1)) in
        both_good (Operation (Compare cmp)) scope n h (λ j. named needs_name j (hoisted needs_name b j)) g.before q.before
        (core_larger all is_scalar (grown_inside m k.before inner) h.term g.term, q.term)
        (below_more (omega arith) h.term g.below, q.below)
    hoisted_good (Select c a b) scope n is below =
        let h = hoisted needs_name c n in
        let m = n + length h.before in
        let x = hoisted needs_name a m in
        let p = m + length x.before in
        let y = hoisted needs_name b p in
        let g = hoisted_good c scope n is.0 below.0 in
        let inner = grown n h.before scope in
        let one = hoisted_good a inner m (term_larger all is_scalar (grown_inside n h.before scope) a is.1)
        (below_more (omega arith) a below.1) in
        let deep = grown m x.before inner in
        let other = hoisted_good b deep p
        (term_larger all is_scalar (inside_then (grown_inside n h.before scope) (grown_inside m x.before inner)) b is.2)
        (below_more (omega arith) b below.2) in
        let last = grown p y.before deep in
        let joined = conditions_joined inner m x.before y.before one.before other.before in
        let whole = x.before ++ y.before in
        let same : grown n (h.before ++ whole) scope ≡ last =
        grown_more n h.before whole scope ∙ grown_more m x.before y.before inner in
        let long = length-append h.before whole in
        let also = length-append x.before y.before in
        record {
          before = conditions_joined scope n h.before whole g.before joined;
          term =
              subst (λ s. Condition s (Select h.term x.term y.term)) (sym same) (
                condition_larger (inside_then (grown_inside m x.before inner) (grown_inside p y.before deep)) h.term g.term,
                condition_larger (grown_inside p y.before deep) x.term one.term,
                other.term,
              );
          below = (
            below_more (omega (arith, long, also)) h.term g.below,
            below_more (omega (arith, long, also)) x.term one.below,
            below_more (omega (arith, long, also)) y.term other.below,
          );
        }

    value_good : (e : Term) (scope : List ℕ) (n : ℕ) → ScopedTerm all is_scalar scope e → TermBelow n e
        → GoodValue scope n (value_of needs_name n e)
    value_good e scope n is below = named_good scope n (hoisted needs_name e n) (hoisted_good e scope n is below)

    -- a test
    record GoodTest (scope : List ℕ) (n : ℕ) (h : Hoisted) : Type 0 where
      before : Conditions scope n h.before
      term : CoreTest all is_scalar (grown n h.before scope) h.term
      condition : Condition (grown n h.before scope) h.term

    tested_good : (scope : List ℕ) (n : ℕ) (h : Hoisted) (e : Term) → h.term ≡ e → Good scope n h
        → GoodTest scope n (tested needs_name n h e)
    tested_good scope n h (Operation (Compare cmp) a b) same g =
        let inner = grown n h.before scope in
        let is : Condition inner (Operation (Compare cmp) a b) = subst (λ t. Condition inner t) same g.term in
        record {
          before = g.before;
          term = subst (λ t. CoreTest all is_scalar inner t) (sym same) is;
          condition = g.term;
        }
    tested_good scope n h e same g =
        let k = named_good scope n h g in
        record { before = k.before; term = (k.term, tt); condition = (k.term, tt) }

    test_good : (c : Term) (scope : List ℕ) (n : ℕ) → ScopedTerm all is_scalar scope c → TermBelow n c
        → GoodTest scope n (test_of needs_name n c)
    test_good c scope n is below =
        tested_good scope n (hoisted needs_name c n) (hoisted needs_name c n).term refl (hoisted_good c scope n is below)

    -- a statement under new variables, and the statements that set them again
    locals_shape : (scope : List ℕ) (n : ℕ) (es : List Term) (s : Statement) → Conditions scope n es
        → CoreShape (grown n es scope) (conditions all_light s)
        → CoreShape scope (conditions all_light (with_locals needs_name n es s))
    locals_shape scope n [] s is more = more
    locals_shape scope n (e ∷ es) s is more =
        local_shape scope n e (conditions all_light (with_locals needs_name (n + 1) es s)) is.0 is.1
        (locals_shape (n ∷ scope) (n + 1) es s is.2 more)

    again_shape : (scope inner : List ℕ) (n : ℕ) (es : List Term) → Inside all (grown n es scope) inner
        → Conditions scope n es → CoreShape inner (conditions all_light (set_again needs_name n es))
    again_shape scope inner n [] f is = tt
    again_shape scope inner n (e ∷ es) f is =
        let here = inside_then (grown_inside (n + 1) es (n ∷ scope)) f in (
          assigned_shape inner n e (here.grows (λ k. is_scalar k ≡ true) n (inl refl))
              (condition_larger (inside_then (inside_more n (inside_same all scope)) here) e is.0),
          again_shape (n ∷ scope) inner (n + 1) es f is.2,
        )

    values_shape : (s : Statement) (scope : List ℕ) (n : ℕ) → Scoped all is_scalar scope s → Below n s
        → CoreShape scope (conditions all_light (values needs_name n s))
    values_shape Skip scope n is below = tt
    values_shape (Seq a b) scope n is below =
        (values_shape a scope n is.0 below.0, values_shape b scope n is.1 below.1)
    values_shape (Set k e) scope n is below =
        let h = value_of needs_name n e in
        let g = value_good e scope n is.1 below.1 in
        let inner = grown n h.before scope in
        locals_shape scope n h.before (Set k h.term) g.before
        (assigned_shape inner k h.term ((grown_inside n h.before scope).grows (λ j. is_scalar j ≡ true) k is.0)
        (core_condition inner h.term g.term))
    values_shape (Put k i e) scope n is below =
        let h = value_of needs_name n e in
        let m = n + length h.before in
        let x = value_of needs_name m i in
        let g = value_good e scope n is.2 below.2 in
        let inner = grown n h.before scope in
        let q = value_good i inner m (term_larger all is_scalar (grown_inside n h.before scope) i is.1)
        (below_more (omega arith) i below.1) in
        let last = grown m x.before inner in
        let same : grown n (h.before ++ x.before) scope ≡ last = grown_more n h.before x.before scope in
        locals_shape scope n (h.before ++ x.before) (Put k x.term h.term)
        (conditions_joined scope n h.before x.before g.before q.before)
        (subst (λ s. CoreShape s (Put k x.term h.term)) (sym same) (
          (inside_then (grown_inside n h.before scope) (grown_inside m x.before inner)).grows (λ j. Unit {0}) k is.0,
          q.term,
          core_larger all is_scalar (grown_inside m x.before inner) h.term g.term,
        ))
    values_shape (If c a b) scope n is below =
        let h = test_of needs_name n c in
        let g = test_good c scope n is.0 below.0 in
        let inner = grown n h.before scope in
        let wide = grown_inside n h.before scope in
        locals_shape scope n h.before (If h.term (values needs_name n a) (values needs_name n b)) g.before
        (choice_shape inner h.term (conditions all_light (values needs_name n a))
        (conditions all_light (values needs_name n b)) g.condition
        (values_shape a inner n (statement_larger all is_scalar wide a is.1) below.1)
        (values_shape b inner n (statement_larger all is_scalar wide b is.2) below.2))
    values_shape (While c a) scope n is below =
        let h = test_of needs_name n c in
        let g = test_good c scope n is.0 below.0 in
        let inner = grown n h.before scope in
        locals_shape scope n h.before
        (While h.term (Seq (values needs_name n a) (set_again needs_name n h.before))) g.before (
          g.term,
          (
            values_shape a inner n (statement_larger all is_scalar (grown_inside n h.before scope) a is.1) below.1,
            again_shape scope inner n h.before (inside_same all inner) g.before,
          ),
        )
    values_shape (Local k e a) scope n is below =
        let h = value_of needs_name n e in
        let g = value_good e scope n is.0 below.1 in
        let inner = grown n h.before scope in
        locals_shape scope n h.before (Local k h.term (values needs_name n a)) g.before
        (core_local_shape inner k h.term (conditions all_light (values needs_name n a)) g.term
        (values_shape a (k ∷ inner) n
        (statement_larger all is_scalar (inside_both k (grown_inside n h.before scope)) a is.1) below.2))

    -- the shape theorem
    pub prepared_shape : (light : Statement → Bool) (n : ℕ) (s : Statement) → Scoped all is_scalar [] s
        → CoreStatement all is_scalar (depth (prepared light needs_name n s)) [] (prepared light needs_name n s)
    prepared_shape light n s is =
        let first = conditions light s in
        let p = above (above n s) first in
        deep_enough _ [] (prepared light needs_name n s)
        (values_shape first [] p (conditions_scoped all is_scalar light [] s is) (all_below p first (omega arith)))
        (omega arith)
