-- The laws of `Keeps`: it is reflexive and transitive, and holds of two statements if it holds of their parts.
use Rattle.std.proofs.Common.{◌≡◌, ℕ, ◌<◌, ◌≤◌, ℤ, Option, ap, ◌∙◌, subst}
use Rattle.std.specs.Prelude.{slice_set}
use Rattle.std.specs.Option.{option_map}
use Rattle.src_tree.specs.Prelude.{wrapped}
use Rattle.module_tree.specs.Operators.{is_true}
use Rattle.flat_tree.specs.Trees.{Term, Statement, Skip, Seq, Set, Put, If, While, Local}
use Rattle.flat_tree.specs.Meaning.{Memory, State, value, holds, with_words, with_scalar, with_element, restored, run}
use Rattle.flat_tree.specs.Keeps.{Agree, Alike, BothSpent, BothLeft, Follows, Keeps, TermBelow, Below}
use Rattle.flat_tree.proofs.Agreeing.{agree_same, agree_then, agree_fewer, agree_set, value_same, both_follow, either_alike, left_alike, Tests, loop_follow, restored_alike}

-- terms with the same value, wherever the memories agree
pub record SameValue (n : ℕ) (e f : Term) : Type 0 where
  pub same : (m l : Memory) → Agree n m l → value m e ≡ value l f

pub own_value : (n : ℕ) (e : Term) → TermBelow n e → SameValue n e e
own_value n e below = record { same = λ m l a. value_same a e below }

-- congruences
pub follows : {n : ℕ} {a b : Statement} → Keeps n a b → Follows n (run a) (run b)
follows k = record { alike = k.alike }

pub keeps_skip : (n : ℕ) → Keeps n Skip Skip
keeps_skip n = record { alike = λ m l turns e. left_alike turns e }

pub keeps_seq : {n : ℕ} {a b c d : Statement} → Keeps n a c → Keeps n b d → Keeps n (Seq a b) (Seq c d)
keeps_seq f g = record { alike = (both_follow (follows f) (follows g)).alike }

pub keeps_set : {n : ℕ} (k : ℕ) {e f : Term} → SameValue n e f → Keeps n (Set k e) (Set k f)
keeps_set {n} k {e} {f} v = record {
  alike = λ m l turns a.
      left_alike turns
      (subst (λ z. Agree n (with_scalar m k (value m e)) (with_scalar l k z)) (v.same m l a)
      (agree_set k _ a));
}

-- an element is written on both sides
pub element_agree : {n : ℕ} {m l : Memory} (k : ℕ) (index word : ℤ) → k < n → Agree n m l
    → Agree n (with_element m k index word) (with_element l k index word)
element_agree {n} {m} {l} k index word lt a =
    subst (λ ws. Agree n (with_element m k index word) (with_words l k (slice_set ws (wrapped ws index) word)))
    (a.same k lt) (agree_set k _ a)

pub keeps_put : {n : ℕ} (k : ℕ) {i j e f : Term} → k < n → SameValue n i j → SameValue n e f
    → Keeps n (Put k i e) (Put k j f)
keeps_put {n} k {i} {j} {e} {f} lt u v = record {
  alike = λ m l turns a.
      left_alike turns
      (subst (λ z. Agree n (with_element m k (value m i) (value m e)) (with_element l k (value l j) z)) (v.same m l a)
      (subst (λ z. Agree n (with_element m k (value m i) (value m e)) (with_element l k z (value m e))) (u.same m l a)
      (element_agree k (value m i) (value m e) lt a)));
}

pub keeps_if : {n : ℕ} {e f : Term} {a b c d : Statement} → SameValue n e f → Keeps n a c → Keeps n b d
    → Keeps n (If e a b) (If f c d)
keeps_if {n} {e} {f} v p q = record {
  alike = λ m l turns a.
      either_alike (holds e m) (holds f l) _ _ _ _ (ap is_true (v.same m l a)) (p.alike m l turns a)
      (q.alike m l turns a);
}

pub keeps_while : {n : ℕ} {e f : Term} {a b : Statement} → SameValue n e f → Keeps n a b
    → Keeps n (While e a) (While f b)
keeps_while {n} {e} {f} {a} {b} v p =
    let tests : Tests n (holds e) (holds f) = record { same = λ m l g. ap is_true (v.same m l g) } in
    record { alike = (loop_follow (holds e) (holds f) (run a) (run b) tests (follows p)).alike }

pub keeps_local : {n : ℕ} (k : ℕ) {e f : Term} {a b : Statement} → k < n → SameValue n e f → Keeps n a b
    → Keeps n (Local k e a) (Local k f b)
keeps_local {n} k {e} {f} {a} {b} lt v p = record {
  alike = λ m l turns g.
      subst (λ ws. Alike n (option_map (restored k (m k)) (run a (with_scalar m k (value m e)) turns))
      (option_map (restored k ws) (run b (with_scalar l k (value l f)) turns))) (g.same k lt)
      (restored_alike k (m k)
      (p.alike (with_scalar m k (value m e)) (with_scalar l k (value l f)) turns
      (subst (λ z. Agree n (with_scalar m k (value m e)) (with_scalar l k z)) (v.same m l g) (agree_set k _ g))));
}

-- statements keep what they do themselves
pub keeps_same : (n : ℕ) (s : Statement) → Below n s → Keeps n s s
keeps_same n Skip below = keeps_skip n
keeps_same n (Seq a b) below = keeps_seq (keeps_same n a below.0) (keeps_same n b below.1)
keeps_same n (Set k e) below = keeps_set k (own_value n e below.1)
keeps_same n (Put k i e) below = keeps_put k below.0 (own_value n i below.1) (own_value n e below.2)
keeps_same n (If c a b) below = keeps_if (own_value n c below.0) (keeps_same n a below.1) (keeps_same n b below.2)
keeps_same n (While c a) below = keeps_while (own_value n c below.0) (keeps_same n a below.1)
keeps_same n (Local k e a) below = keeps_local k below.0 (own_value n e below.1) (keeps_same n a below.2)

-- passes in sequence: the second may have added variables
pub alike_trans : {n p : ℕ} {q r s : Option State} → n ≤ p → Alike n q r → Alike p r s → Alike n q s
alike_trans le BothSpent BothSpent = BothSpent
alike_trans le (BothLeft same e) (BothLeft also f) = BothLeft (same ∙ also) (agree_then e (agree_fewer le f))

pub keeps_then : {n p : ℕ} {a b c : Statement} → n ≤ p → Keeps n a b → Keeps p b c → Keeps n a c
keeps_then {p = p} le f g = record {
  alike = λ m l turns e. alike_trans le (f.alike m l turns e) (g.alike l l turns (agree_same p l));
}

-- statements that leave the same
pub keeps_equal : {n : ℕ} {a b c : Statement} → Keeps n a b
    → ((m : Memory) (turns : ℕ) → run b m turns ≡ run c m turns) → Keeps n a c
keeps_equal {n} {a} {b} {c} f equal = record {
  alike = λ m l turns e. subst (λ r. Alike n (run a m turns) r) (equal l turns) (f.alike m l turns e);
}
