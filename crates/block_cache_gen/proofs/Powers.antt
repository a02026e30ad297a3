-- A test of the numbers of a range, one after another.
use Rattle.std.proofs.Common.{◌≡◌, ℕ, zero, suc, ◌+◌, ◌*◌, ◌%◌, ◌^◌, ◌<◌, ◌≤◌, eq-eqb, Bool, true, false, refl, sym, ap, ◌∙◌, arith}
use Rattle.std.specs.Prelude.{◌==◌}
use Rattle.std.proofs.lemmas.Bool.{ne_eqb, or_left, or_right, or_from}
use Rattle.std.proofs.lemmas.Nat.{one_shl}
use Rattle.std.specs.List.{list_any, range_with_len}

pub any_hit : (p : ℕ → Bool) (a n k : ℕ) → k < n → p (a + k) ≡ true → list_any p (range_with_len a n) ≡ true
any_hit p a zero k below is = absurd (omega arith)
any_hit p a (suc n) zero below is =
    let e : a + 0 ≡ a = omega arith in
    or_left (p a) (list_any p (range_with_len (a + 1) n)) (sym (ap p e) ∙ is)
any_hit p a (suc n) (suc k) below is =
    let e : a + suc k ≡ a + 1 + k = omega arith in
    or_right (p a) (list_any p (range_with_len (a + 1) n)) (any_hit p (a + 1) n k (omega arith) (sym (ap p e) ∙ is))

pub any_miss : (p : ℕ → Bool) (a n : ℕ)
    → ((k : ℕ) → k < n → p (a + k) ≡ false) → list_any p (range_with_len a n) ≡ false
any_miss p a zero none = refl
any_miss p a (suc n) none =
    let e : a + 0 ≡ a = omega arith in
    or_from (p a) (list_any p (range_with_len (a + 1) n)) (sym (ap p e) ∙ none 0 (omega arith))
    (any_miss p (a + 1) n
    (λ k below. let e : a + 1 + k ≡ a + suc k = omega arith in ap p e ∙ none (suc k) (omega arith)))

-- the shift that makes a power, within 32 bits
pub power_found : (number count k : ℕ) → k < count → count ≤ 32 → 1 * 2 ^ k % 2 ^ 32 ≡ number
    → true ≡ list_any (λ j. 2 ^ j == number) (range_with_len 0 count)
power_found number count k below most is =
    let e : 0 + k ≡ k = omega arith in
    sym
    (any_hit (λ j. 2 ^ j == number) 0 count k below
    (eq-eqb (2 ^ (0 + k)) number (ap (λ j. 2 ^ j) e ∙ sym (one_shl k 32 (omega arith)) ∙ is)))

-- a shift that makes another number
pub power_missed : (number k : ℕ) → k < 32 → (1 * 2 ^ k % 2 ^ 32 ≡ number → ⊥) → (2 ^ k == number) ≡ false
power_missed number k below other = ne_eqb (2 ^ k) number (λ e. other (one_shl k 32 below ∙ e))

-- no power is the number
pub no_power : (number count k : ℕ) → count ≤ k → ((j : ℕ) → j < k → (2 ^ j == number) ≡ false)
    → false ≡ list_any (λ j. 2 ^ j == number) (range_with_len 0 count)
no_power number count k all none =
    sym
    (any_miss (λ j. 2 ^ j == number) 0 count
    (λ j below. let e : 0 + j ≡ j = omega arith in ap (λ n. 2 ^ n == number) e ∙ none j (omega arith)))
