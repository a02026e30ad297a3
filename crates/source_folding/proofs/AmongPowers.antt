-- The first number of a range that passes a test, looked for one after another.
use Rattle.std.proofs.Common.{◌≡◌, ℕ, zero, suc, ◌+◌, ◌*◌, ◌%◌, ◌^◌, ◌<◌, ◌≤◌, cond, Bool, true, false, Some, None, refl, sym, ap, ◌∙◌, arith}
use Rattle.std.specs.Prelude.{◌==◌, find}
use Rattle.std.proofs.lemmas.Bool.{eq-eqb, ne_eqb}
use Rattle.std.proofs.lemmas.Nat.{one_shl}
use Rattle.std.specs.List.{range_with_len}

-- the rest of the range, if the first number fails the test
find-past : (p : ℕ → Bool) (a n : ℕ) → p a ≡ false
    → find p (range_with_len a (suc n)) ≡ find p (range_with_len (a + 1) n)
find-past p a n fails = ap (λ b. cond b (Some a) (find p (range_with_len (a + 1) n))) fails

find-hit : (p : ℕ → Bool) (a n k : ℕ) → k < n → ((j : ℕ) → j < k → p (a + j) ≡ false) → p (a + k) ≡ true
    → find p (range_with_len a n) ≡ Some (a + k)
find-hit p a zero k below none is = absurd (omega arith)
find-hit p a (suc n) zero below none is =
    let e : a + 0 ≡ a = omega arith in
    ap (λ b. cond b (Some a) (find p (range_with_len (a + 1) n))) (sym (ap p e) ∙ is) ∙ ap Some (sym e)
find-hit p a (suc n) (suc k) below none is =
    let e : a + 0 ≡ a = omega arith in
    let f : a + suc k ≡ a + 1 + k = omega arith in
    find-past p a n (sym (ap p e) ∙ none 0 (omega arith))
    ∙ find-hit p (a + 1) n k (omega arith)
    (λ j low. let g : a + 1 + j ≡ a + suc j = omega arith in ap p g ∙ none (suc j) (omega arith)) (sym (ap p f) ∙ is)
    ∙ ap Some (sym f)

find-miss : (p : ℕ → Bool) (a n : ℕ) → ((j : ℕ) → j < n → p (a + j) ≡ false) → find p (range_with_len a n) ≡ None
find-miss p a zero none = refl
find-miss p a (suc n) none =
    let e : a + 0 ≡ a = omega arith in
    find-past p a n (sym (ap p e) ∙ none 0 (omega arith))
    ∙ find-miss p (a + 1) n
    (λ j low. let g : a + 1 + j ≡ a + suc j = omega arith in ap p g ∙ none (suc j) (omega arith))

-- the shift that makes a power, within 64 bits
pub power_found : (number count k : ℕ) → k < count → count ≤ 64 → ((j : ℕ) → j < k → (2 ^ j == number) ≡ false)
    → 1 * 2 ^ k % 2 ^ 64 ≡ number → Some k ≡ find (λ j. 2 ^ j == number) (range_with_len 0 count)
power_found number count k below most none is =
    let e : 0 + k ≡ k = omega arith in
    sym
    (find-hit (λ j. 2 ^ j == number) 0 count k below
    (λ j low. let f : 0 + j ≡ j = omega arith in ap (λ n. 2 ^ n == number) f ∙ none j low)
    (eq-eqb (2 ^ (0 + k)) number (ap (λ j. 2 ^ j) e ∙ sym (one_shl k 64 (omega arith)) ∙ is))
    ∙ ap Some e)

-- a shift that makes another number
pub power_missed : (number k : ℕ) → k < 64 → (1 * 2 ^ k % 2 ^ 64 ≡ number → ⊥) → (2 ^ k == number) ≡ false
power_missed number k below other = ne_eqb (2 ^ k) number (λ e. other (one_shl k 64 below ∙ e))

-- no power is the number
pub no_power : (number count k : ℕ) → count ≤ k → ((j : ℕ) → j < k → (2 ^ j == number) ≡ false)
    → None ≡ find (λ j. 2 ^ j == number) (range_with_len 0 count)
no_power number count k all none =
    sym
    (find-miss (λ j. 2 ^ j == number) 0 count
    (λ j below. let e : 0 + j ≡ j = omega arith in ap (λ n. 2 ^ n == number) e ∙ none j (omega arith)))
