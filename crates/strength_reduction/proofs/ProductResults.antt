-- The steps of a product result in the product.
use Rattle.std.proofs.Common.{◌≡◌, ℕ, ◌+◌, ◌*◌, ◌^◌, ◌<◌, Bool, true, false, cond, eqb, ℤ, pos, List, [], ◌∷◌, refl, sym, ap, ◌∙◌, arith}
use Rattle.std.specs.Prelude.{All}
use Rattle.std.proofs.lemmas.Bool.{eqb-true}
use Rattle.std.proofs.lemmas.List.Elements.{All-head, All-tail}
use Rattle.gr_word.specs.declared.operations.Op.TheVariants.{Add, Mul, Shl}
use Rattle.gr_word.specs.Prelude.{IsWord, applied, unsigned_of}
use Rattle.strength_reduction.specs.Prelude.{Constant, Compute, left_by, words_after, set_bits, sum_steps, sum_register, product_steps}
use Rattle.strength_reduction.proofs.SetBits.{power_sum, set_bits-low, set_bits-sum}
use Rattle.strength_reduction.proofs.Wrapping.{wrapped, word-wrapped, add-wrapped, mul-wrapped, shl-wrapped, xor-same}

abbrev AreLow : List ℕ → Type 0
AreLow bits = All (λ k. k < 64) bits

-- one more term of the sum
term : (value before : ℤ) (sum k : ℕ)
    → k < 64
    → before ≡ wrapped (unsigned_of value * sum)
    → applied Add before (applied Shl value (pos k)) ≡ wrapped (unsigned_of value * (sum + 2 ^ k))
term value before sum k below e =
    ap (λ w. applied Add w (applied Shl value (pos k))) e
    ∙ (ap (applied Add (wrapped (unsigned_of value * sum))) (shl-wrapped value k below)
    ∙ (add-wrapped (unsigned_of value * sum) (unsigned_of value * 2 ^ k)
    ∙ ap wrapped (joined (unsigned_of value) sum (2 ^ k))))
  where
    joined : (u m n : ℕ) → u * m + u * n ≡ u * (m + n)
    joined u m n = omega arith

-- a sum in register 1 and the terms of some bits
sums : (k : ℕ) (bits : List ℕ) (words : ℕ → ℤ) (sum : ℕ)
    → k < 64
    → AreLow bits
    → words 1 ≡ wrapped (unsigned_of (words 0) * sum)
    → words_after (sum_steps 1 (k ∷ bits)) words 0
    ≡ wrapped (unsigned_of (words 0) * (sum + power_sum (k ∷ bits)))
sums k [] words sum below low start =
    term (words 0) (words 1) sum k below start
    ∙ ap (λ n. wrapped (unsigned_of (words 0) * (sum + n))) (omega arith)
sums k (l ∷ bits) words sum below low start =
    sums l bits
    (left_by (λ value. value) applied (Constant 2 (pos k) ∷ Compute Shl 2 0 2 ∷ Compute Add 1 1 2 ∷ []) words)
    (sum + 2 ^ k)
    (All-head (λ k. k < 64) l bits low)
    (All-tail (λ k. k < 64) l bits low)
    (term (words 0) (words 1) sum k below start)
    ∙ ap (λ n. wrapped (unsigned_of (words 0) * n)) (joined sum (2 ^ k) (power_sum (l ∷ bits)))
  where
    joined : (a b c : ℕ) → a + b + c ≡ a + (b + c)
    joined a b c = omega arith

-- the value itself is the first term
odd : (bits : List ℕ) (words : ℕ → ℤ)
    → AreLow bits
    → IsWord (words 0)
    → words_after (sum_steps 0 bits) words 0 ≡ wrapped (unsigned_of (words 0) * (1 + power_sum bits))
odd [] words low fits =
    sym (word-wrapped (words 0) fits) ∙ ap wrapped (once (unsigned_of (words 0)))
  where
    once : (u : ℕ) → u ≡ u * (1 + 0)
    once u = omega arith
odd (k ∷ []) words low fits =
    term (words 0) (words 0) 1 k (All-head (λ k. k < 64) k [] low)
    (sym (word-wrapped (words 0) fits) ∙ ap wrapped (once (unsigned_of (words 0))))
    ∙ ap (λ n. wrapped (unsigned_of (words 0) * (1 + n))) (omega arith)
  where
    once : (u : ℕ) → u ≡ u * 1
    once u = omega arith
odd (k ∷ l ∷ bits) words low fits =
    sums l bits
    (left_by (λ value. value) applied (Constant 2 (pos k) ∷ Compute Shl 2 0 2 ∷ Compute Add 1 0 2 ∷ []) words)
    (1 + 2 ^ k)
    (All-head (λ k. k < 64) l bits (All-tail (λ k. k < 64) k (l ∷ bits) low))
    (All-tail (λ k. k < 64) l bits (All-tail (λ k. k < 64) k (l ∷ bits) low))
    (term (words 0) (words 0) 1 k (All-head (λ k. k < 64) k (l ∷ bits) low)
    (sym (word-wrapped (words 0) fits) ∙ ap wrapped (once (unsigned_of (words 0)))))
    ∙ ap (λ n. wrapped (unsigned_of (words 0) * n)) (joined 1 (2 ^ k) (power_sum (l ∷ bits)))
  where
    once : (u : ℕ) → u ≡ u * 1
    once u = omega arith

    joined : (a b c : ℕ) → a + b + c ≡ a + (b + c)
    joined a b c = omega arith

-- a shifted value is the first term
even : (k : ℕ) (bits : List ℕ) (words : ℕ → ℤ)
    → k < 64
    → AreLow bits
    → words_after (Constant 2 (pos k) ∷ Compute Shl (sum_register bits) 0 2 ∷ sum_steps 1 bits) words 0
    ≡ wrapped (unsigned_of (words 0) * (2 ^ k + power_sum bits))
even k [] words below low =
    shl-wrapped (words 0) k below ∙ ap (λ n. wrapped (unsigned_of (words 0) * n)) (omega arith)
even k (l ∷ bits) words below low =
    sums l bits
    (left_by (λ value. value) applied (Constant 2 (pos k) ∷ Compute Shl 1 0 2 ∷ []) words)
    (2 ^ k)
    (All-head (λ k. k < 64) l bits low)
    (All-tail (λ k. k < 64) l bits low)
    (shl-wrapped (words 0) k below)

-- a product by bits
by-bits : (bits : List ℕ) (words : ℕ → ℤ)
    → AreLow bits
    → IsWord (words 0)
    → words_after (product_steps bits) words 0 ≡ wrapped (unsigned_of (words 0) * power_sum bits)
by-bits [] words low fits = xor-same (words 0) ∙ ap wrapped (nothing (unsigned_of (words 0)))
  where
    nothing : (u : ℕ) → 0 ≡ u * 0
    nothing u = omega arith
by-bits (k ∷ bits) words low fits = cases (eqb k 0) refl
  where
    cases : (b : Bool)
        → eqb k 0 ≡ b
        → words_after
        (cond b (sum_steps 0 bits) (Constant 2 (pos k) ∷ Compute Shl (sum_register bits) 0 2 ∷ sum_steps 1 bits))
        words 0
        ≡ wrapped (unsigned_of (words 0) * (2 ^ k + power_sum bits))
    cases true e =
        odd bits words (All-tail (λ k. k < 64) k bits low) fits
        ∙ ap (λ i. wrapped (unsigned_of (words 0) * (2 ^ i + power_sum bits))) (sym (eqb-true k 0 e))
    cases false e =
        even k bits words (All-head (λ k. k < 64) k bits low) (All-tail (λ k. k < 64) k bits low)

-- the steps of a product by a number result in the product
pub product-result : (number : ℤ) (words : ℕ → ℤ)
    → IsWord number
    → IsWord (words 0)
    → words_after (product_steps (set_bits number)) words 0 ≡ applied Mul (words 0) number
product-result number words fits value =
    by-bits (set_bits number) words (set_bits-low number) value
    ∙ (ap (λ n. wrapped (unsigned_of (words 0) * n)) (set_bits-sum number fits)
    ∙ sym (mul-wrapped (words 0) number value fits))
