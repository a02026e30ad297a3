-- Once the new variables are set, the term that is left has the value that the expression had.
use Rattle.std.proofs.Common.{◌≡◌, ℕ, ◌+◌, ◌≤◌, Bool, true, false, if◌then◌else◌, ℤ, pos, List, [], ◌∷◌, ◌++◌, length, refl, sym, ap, ◌∙◌, arith}
use Rattle.std.specs.Prelude.{not}
use Rattle.std.proofs.lemmas.List.{length-append}
use Rattle.gr_word.specs.declared.operations.Cmp.TheVariants.{Ne}
use Rattle.module_tree.specs.Operators.{LogicalShift, Compare, Conjunction, Disjunction, shifted_logically, result, is_true, bit}
use Rattle.flat_tree.specs.Trees.{Term, Number, Scalar, Element, Operation, Select}
use Rattle.flat_tree.specs.Meaning.{Memory, first_word, word_at, value, holds}
use Rattle.flat_tree.specs.Keeps.{Agree, TermBelow}
use Rattle.flat_tree.proofs.Agreeing.{agree_same, agree_back, agree_then, read_here}
use Rattle.flat_passes.specs.Shifts.{shifted}
use Rattle.flat_passes.specs.Values.{Hoisted, named_if, is_leaf, named, two, hoisted, value_of, tested, test_of}
use Rattle.flat_passes.proofs.ShiftedValues.{shifted_value}
use Rattle.flat_passes.proofs.Temporaries.{temporaries, temporaries_more, before_temporaries, split}

-- The term has the value, if the variables with numbers below p have the words of m, and the new variables from number n
-- on are set.
pub record Right (p n : ℕ) (v : Memory → ℤ) (h : Hoisted) : Type 0 where
  pub is : (m start l : Memory) → Agree p start m → Agree (n + length h.before) (temporaries n h.before start) l
      → value l h.term ≡ v m

-- what is set first leaves the variables below p
pub still : {p : ℕ} (n : ℕ) (es : List Term) (m start : Memory) → p ≤ n → Agree p start m → Agree p (temporaries n es start) m
still n es m start le a = agree_then (agree_back (before_temporaries n es start le)) a

-- the same of a condition
pub record RightTest (p n : ℕ) (v : Memory → Bool) (h : Hoisted) : Type 0 where
  pub is : (m start l : Memory) → Agree p start m → Agree (n + length h.before) (temporaries n h.before start) l
      → holds h.term l ≡ v m

true_bit : (b : Bool) → is_true (bit b) ≡ b
true_bit true = refl
true_bit false = refl

against_zero : {p n : ℕ} {v : Memory → ℤ} {h : Hoisted} → Right p n v h
    → RightTest p n (λ m. is_true (v m))
    (record { before = h.before; term = Operation (Compare Ne) h.term (Number (pos 0)) })
against_zero {h = h} r = record {
  is = λ m start l a b. true_bit (is_true (value l h.term)) ∙ ap is_true (r.is m start l a b);
}

named_if_right : {p n : ℕ} {v : Memory → ℤ} {h : Hoisted} (wanted : Bool) → Right p n v h
    → Right p n v (named_if wanted n h)
named_if_right {p} {n} {v} {h} true r = record {
  is = λ m start l a b.
      let k = n + length h.before in
      let long = length-append h.before (h.term ∷ []) in
      let e = temporaries_more n h.before (h.term ∷ []) start in
      let middle = temporaries n h.before start in
      ap first_word
      (sym (b.same k (omega (arith, long)))
      ∙ ap (λ (t : Memory). t k) e
      ∙ read_here middle k (value middle h.term ∷ []))
      ∙ r.is m start middle a (agree_same _ middle);
}
named_if_right false r = r

module _ (needs_name : Term → Bool) where
  pub named_right : {p n : ℕ} {v : Memory → ℤ} {h : Hoisted} → Right p n v h → Right p n v (named needs_name n h)
  named_right {h = h} r = named_if_right (needs_name h.term) r

  two_right : {p n : ℕ} {u v : Memory → ℤ} (f : Term → Term → Term) (w : Memory → ℤ) {h : Hoisted} (g : ℕ → Hoisted)
      → p ≤ n → Right p n u h → Right p (n + length h.before) v (g (n + length h.before))
      → ((m l : Memory) (a b : Term) → value l a ≡ u m → value l b ≡ v m → value l (f a b) ≡ w m)
      → Right p n w (two f n h g)
  two_right {p} {n} f w {h} g le r q join = record {
    is = λ m start l a b.
        let k = n + length h.before in
        let s = split n h.before (g k).before start l b in
        join m l h.term (g k).term (r.is m start l a s.first)
        (q.is m (temporaries n h.before start) l (still n h.before m start le a) s.second);
  }

  pub hoisted_right : {p : ℕ} (e : Term) (n : ℕ) → p ≤ n → TermBelow p e → Right p n (λ m. value m e) (hoisted needs_name e n)
  hoisted_right (Number z) n le below = record { is = λ m start l a b. refl }
  hoisted_right (Scalar k) n le below =
      record { is = λ m start l a b. ap first_word (sym (b.same k (omega (arith, le, below))) ∙ a.same k below) }
  hoisted_right (Element k i) n le below =
      let h = named needs_name n (hoisted needs_name i n) in
      let r = named_right (hoisted_right i n le below.1) in
      record {
        is = λ m start l a b.
            ap (λ ws. word_at ws (value l h.term))
            (sym (b.same k (omega (arith, le, below.0))) ∙ (still n h.before m start le a).same k below.0)
            ∙ ap (word_at (m k)) (r.is m start l a b);
      }
  hoisted_right (Operation Conjunction a b) n le below =
      two_right (Operation Conjunction) (λ m. value m (Operation Conjunction a b)) (hoisted needs_name b) le
      (hoisted_right a n le below.0) (hoisted_right b _ (omega (arith, le)) below.1)
      (λ m l x y e f. ap (λ z. result Conjunction z (value l y)) e ∙ ap (result Conjunction (value m a)) f)
  hoisted_right (Operation Disjunction a b) n le below =
      two_right (Operation Disjunction) (λ m. value m (Operation Disjunction a b)) (hoisted needs_name b) le
      (hoisted_right a n le below.0) (hoisted_right b _ (omega (arith, le)) below.1)
      (λ m l x y e f. ap (λ z. result Disjunction z (value l y)) e ∙ ap (result Disjunction (value m a)) f)
  hoisted_right (Operation LogicalShift a b) n le below =
      two_right shifted (λ m. value m (Operation LogicalShift a b))
      (λ k. let h = hoisted needs_name b k in named_if (not (is_leaf h.term)) k h) le
      (named_right (hoisted_right a n le below.0))
      (named_if_right (not (is_leaf (hoisted needs_name b _).term)) (hoisted_right b _ (omega (arith, le)) below.1))
      (λ m l x y e f.
      shifted_value l x y
      ∙ ap (λ z. shifted_logically z (value l y)) e
      ∙ ap (shifted_logically (value m a)) f)
  hoisted_right (Operation operator a b) n le below =
      two_right (Operation operator) (λ m. value m (Operation operator a b)) (λ k. named needs_name k (hoisted needs_name b k)) le
      (named_right (hoisted_right a n le below.0)) (named_right (hoisted_right b _ (omega (arith, le)) below.1))
      (λ m l x y e f. ap (λ z. result operator z (value l y)) e ∙ ap (result operator (value m a)) f)
  hoisted_right (Select c a b) n le below =
      let h = hoisted needs_name c n in
      let k = n + length h.before in
      let x = hoisted needs_name a k in
      let y = hoisted needs_name b (k + length x.before) in
      let first = hoisted_right c n le below.0 in
      let second = hoisted_right a k (omega (arith, le)) below.1 in
      let third = hoisted_right b (k + length x.before) (omega (arith, le)) below.2 in
      record {
        is = λ m start l agree b.
            let s = split n h.before (x.before ++ y.before) start l b in
            let middle = temporaries n h.before start in
            let t = split k x.before y.before middle l s.second in
            let own = still n h.before m start le agree in
            ap (λ z. if is_true z then value l x.term else value l y.term) (first.is m start l agree s.first)
            ∙ ap (λ z. if is_true (value m c) then z else value l y.term) (second.is m middle l own t.first)
            ∙ ap (λ z. if is_true (value m c) then value m a else z)
            (third.is m (temporaries k x.before middle) l (still k x.before m middle (omega (arith, le)) own) t.second);
      }

  pub value_right : {p : ℕ} (n : ℕ) (e : Term) → p ≤ n → TermBelow p e → Right p n (λ m. value m e) (value_of needs_name n e)
  value_right n e le below = named_right (hoisted_right e n le below)

  test_right : {p n : ℕ} {v : Memory → ℤ} {h : Hoisted} → Right p n v h → (t : Term)
      → RightTest p n (λ m. is_true (v m)) (tested needs_name n h t)
  test_right r (Operation (Compare cmp) a b) = record { is = λ m start l a b. ap is_true (r.is m start l a b) }
  test_right r t = against_zero (named_right r)

  pub condition_right : {p : ℕ} (n : ℕ) (c : Term) → p ≤ n → TermBelow p c → RightTest p n (holds c) (test_of needs_name n c)
  condition_right n c le below = test_right (hoisted_right c n le below) (hoisted needs_name c n).term
