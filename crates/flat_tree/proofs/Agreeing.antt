-- Memories that agree on the variables with numbers below n, and terms and statements over such variables.
use Rattle.std.proofs.Common.{◌≡◌, ℕ, zero, suc, ◌≤◌, ℤ, Bool, true, false, if◌then◌else◌, List, Option, Some, refl, sym, ap, ◌∙◌, subst, arith}
use Rattle.std.specs.Prelude.{◌==◌}
use Rattle.std.specs.Option.{option_and_then, option_map}
use Rattle.std.proofs.lemmas.Bool.{ne_eqb, eq-eqb}
use Rattle.module_tree.specs.Operators.{result, is_true}
use Rattle.flat_tree.specs.Trees.{Term, Number, Scalar, Element, Operation, Select}
use Rattle.flat_tree.specs.Meaning.{Memory, State, Execution, first_word, word_at, with_words, value, at, onward, in_turn, turn_taken, looped, loop, restored}
use Rattle.flat_tree.specs.Keeps.{Agree, Alike, BothSpent, BothLeft, Follows, TermBelow}

pub agree_same : (n : ℕ) (m : Memory) → Agree n m m
agree_same n m = record { same = λ k lt. refl }

pub agree_back : {n : ℕ} {m l : Memory} → Agree n m l → Agree n l m
agree_back e = record { same = λ k lt. sym (e.same k lt) }

pub agree_then : {n : ℕ} {m l h : Memory} → Agree n m l → Agree n l h → Agree n m h
agree_then e f = record { same = λ k lt. e.same k lt ∙ f.same k lt }

pub agree_fewer : {p n : ℕ} {m l : Memory} → n ≤ p → Agree p m l → Agree n m l
agree_fewer le e = record { same = λ k lt. e.same k (omega (arith, le, lt)) }

if_same : (b : Bool) (w x y : List ℤ) → x ≡ y → (if b then w else x) ≡ (if b then w else y)
if_same true w x y e = refl
if_same false w x y e = e

-- the same words are written on both sides
pub agree_set : {n : ℕ} {m l : Memory} (k : ℕ) (w : List ℤ) → Agree n m l → Agree n (with_words m k w) (with_words l k w)
agree_set {n} {m} {l} k w e = record { same = λ j lt. if_same (j == k) w (m j) (l j) (e.same j lt) }

pub read_here : (m : Memory) (k : ℕ) (w : List ℤ) → with_words m k w k ≡ w
read_here m k w = ap (λ b. if b then w else m k) (eq-eqb k k refl)

pub read_other : (m : Memory) (k j : ℕ) (w : List ℤ) → (j ≡ k → ⊥) → with_words m k w j ≡ m j
read_other m k j w ne = ap (λ b. if b then w else m j) (ne_eqb j k ne)

-- a variable with number n or above is written
pub agree_new : {n : ℕ} (m : Memory) (k : ℕ) (w : List ℤ) → n ≤ k → Agree n m (with_words m k w)
agree_new m k w le = record { same = λ j lt. sym (read_other m k j w (λ e. omega (arith, e, le, lt))) }

-- a term has the same value in memories that agree on its variables
pub value_same : {n : ℕ} {m l : Memory} → Agree n m l → (e : Term) → TermBelow n e → value m e ≡ value l e
value_same a (Number z) below = refl
value_same a (Scalar k) below = ap first_word (a.same k below)
value_same {m = m} {l = l} a (Element k i) below =
    ap (λ ws. word_at ws (value m i)) (a.same k below.0) ∙ ap (word_at (l k)) (value_same a i below.1)
value_same {m = m} {l = l} a (Operation operator x y) below =
    ap (λ z. result operator z (value m y)) (value_same a x below.0) ∙ ap (result operator (value l x)) (value_same a y below.1)
value_same {m = m} {l = l} a (Select c x y) below =
    ap (λ z. if is_true z then value m x else value m y) (value_same a c below.0)
    ∙ ap (λ z. if is_true (value l c) then z else value m y) (value_same a x below.1)
    ∙ ap (λ z. if is_true (value l c) then value l x else z) (value_same a y below.2)

-- executions in sequence, choices and loops
pub onward_alike : {n : ℕ} {run other : Execution} → Follows n run other → (a b : State) → a.turns ≡ b.turns
    → Agree n a.memory b.memory → Alike n (onward run a) (onward other b)
onward_alike {n} {run} {other} f a b same e =
    subst (λ t. Alike n (run a.memory a.turns) (other b.memory t)) same (f.alike a.memory b.memory a.turns e)

pub alike_then : {n : ℕ} {second other : Execution} {r q : Option State} → Follows n second other → Alike n r q
    → Alike n (option_and_then (onward second) r) (option_and_then (onward other) q)
alike_then f BothSpent = BothSpent
alike_then f (BothLeft {a = a} {b = b} same e) = onward_alike f a b same e

pub both_follow : {n : ℕ} {first second one other : Execution} → Follows n first one → Follows n second other
    → Follows n (in_turn first second) (in_turn one other)
both_follow f g = record { alike = λ m l turns e. alike_then g (f.alike m l turns e) }

pub either_alike : {n : ℕ} (b c : Bool) (p q x y : Option State) → b ≡ c → Alike n p x → Alike n q y
    → Alike n (if b then p else q) (if c then x else y)
either_alike {n} b c p q x y e f g = subst (λ z. Alike n (if b then p else q) (if z then x else y)) e (by b)
  where
    by : (d : Bool) → Alike n (if d then p else q) (if d then x else y)
    by true = f
    by false = g

pub left_alike : {n : ℕ} {m l : Memory} (turns : ℕ) → Agree n m l → Alike n (Some (at m turns)) (Some (at l turns))
left_alike turns e = BothLeft refl e

-- tests that agree
pub record Tests (n : ℕ) (test other : Memory → Bool) : Type 0 where
  pub same : (m l : Memory) → Agree n m l → test m ≡ other l

taken_alike : {n : ℕ} {body other rest more : Execution} → Follows n body other → Follows n rest more
    → (turns : ℕ) (m l : Memory) → Agree n m l → Alike n (turn_taken body rest m turns) (turn_taken other more l turns)
taken_alike f g zero m l e = BothSpent
taken_alike f g (suc turns) m l e = (both_follow f g).alike m l turns e

looped_follow : {n : ℕ} (test one : Memory → Bool) (body other : Execution) → Tests n test one → Follows n body other
    → (most : ℕ) → Follows n (looped test body most) (looped one other most)
unfolding looped
looped_follow test one body other agree f zero = record {
  alike = λ m l turns e.
      either_alike (test m) (one l) _ _ _ _ (agree.same m l e) BothSpent (left_alike turns e);
}
looped_follow test one body other agree f (suc most) =
    let rest = looped_follow test one body other agree f most in
    record {
      alike = λ m l turns e.
          either_alike (test m) (one l) _ _ _ _ (agree.same m l e) (taken_alike f rest turns m l e)
          (left_alike turns e);
    }

pub loop_follow : {n : ℕ} (test one : Memory → Bool) (body other : Execution) → Tests n test one
    → Follows n body other → Follows n (loop test body) (loop one other)
loop_follow test one body other agree f = record {
  alike = λ m l turns e. (looped_follow test one body other agree f turns).alike m l turns e;
}

-- a variable gets back what it was
pub restored_alike : {n : ℕ} {r q : Option State} (k : ℕ) (w : List ℤ) → Alike n r q
    → Alike n (option_map (restored k w) r) (option_map (restored k w) q)
restored_alike k w BothSpent = BothSpent
restored_alike k w (BothLeft same e) = BothLeft same (agree_set k w e)
