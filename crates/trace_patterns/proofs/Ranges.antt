-- A test of each number of a range.
use Rattle.std.proofs.Common.{◌≡◌, ℕ, zero, suc, ◌+◌, ◌<◌, ◌≤◌, Bool, true, false, refl, sym, ◌∙◌, subst, ⊎_elim, arith}
use Rattle.std.specs.List.{range_with_len, list_all}
use Rattle.std.proofs.lemmas.Bool.{and_from, and_parts, cases_eq, false_from_ne_true, false≢true}

-- if it is true for each number, it is true for the whole range
pub all_in : (test : ℕ → Bool) (a n : ℕ) → ((q : ℕ) → a ≤ q → q < a + n → test q ≡ true)
    → list_all test (range_with_len a n) ≡ true
all_in test a zero h = refl
all_in test a (suc n) h =
    and_from (test a) (list_all test (range_with_len (a + 1) n)) (h a (omega arith) (omega arith))
    (all_in test (a + 1) n (λ q low high. h q (omega arith) (omega arith)))

-- if it is true for the whole range, it is true for each number
pub all_at : (test : ℕ → Bool) (a n q : ℕ) → list_all test (range_with_len a n) ≡ true → a ≤ q → q < a + n
    → test q ≡ true
all_at test a zero q h low high = absurd (omega arith)
all_at test a (suc n) q h low high =
    let parts = and_parts (test a) (list_all test (range_with_len (a + 1) n)) h in
    ⊎_elim
    (λ (e : q ≡ a). subst (λ m. test m ≡ true) (sym e) parts.0)
    (λ (ne : q ≡ a → ⊥). all_at test (a + 1) n q parts.1 (omega arith) (omega arith))
    (cases_eq q a)

-- if it is false for one number, it is false for the whole range
pub fails_at : (test : ℕ → Bool) (a n q : ℕ) → a ≤ q → q < a + n → test q ≡ false
    → list_all test (range_with_len a n) ≡ false
fails_at test a n q low high e =
    false_from_ne_true (list_all test (range_with_len a n)) (λ h. false≢true (sym e ∙ all_at test a n q h low high))
