-- The bits of a word: each is one of 64, and the word is the sum of their powers of two.
use Rattle.std.proofs.Common.{◌≡◌, ◌≢◌, ℕ, zero, suc, ◌+◌, ◌*◌, ◌/◌, ◌%◌, ◌^◌, ◌<◌, ◌≤◌, cond, eqb, ℤ, List, [], ◌∷◌, ◌++◌, sym, ap, ◌∙◌, arith, add-one}
use Rattle.std.specs.Prelude.{All}
use Rattle.std.specs.List.{filter, range_with_len}
use Rattle.std.specs.Int.{bit_at}
use Rattle.std.specs.Int.RustNames.{bit_and}
use Rattle.std.proofs.lemmas.Bool.{eq-eqb, ne_eqb}
use Rattle.std.proofs.lemmas.Bool.Decides.{nat_tests}
use Rattle.std.proofs.lemmas.List.{append-nil}
use Rattle.std.proofs.lemmas.Nat.Bits.{shr_and_one}
use Rattle.std.proofs.lemmas.List.Elements.{filter-append, All-filter, All-cons, All-nil}
use Rattle.std.proofs.lemmas.Nat.{mod-pow-add}
use Rattle.std.proofs.Math.Nat.{mod-eq_of_lt, mod-one}
use Rattle.std.proofs.Math.Facts.{Fits-of_z}
use Rattle.gr_word.specs.Prelude.{IsWord, unsigned_of}
use Rattle.strength_reduction.specs.Prelude.{set_bits}

-- the positions below n of the bits of a number that are 1
abbrev pub bits_below : ℕ → ℕ → List ℕ
bits_below number n = filter (λ k. eqb (bit_at number k) 1) (range_with_len 0 n)

-- the sum of the powers of two at some positions
abbrev pub power_sum : List ℕ → ℕ
power_sum [] = 0
power_sum (k ∷ bits) = 2 ^ k + power_sum bits

power_sum-append : (bits more : List ℕ) → power_sum (bits ++ more) ≡ power_sum bits + power_sum more
power_sum-append [] more = omega arith
power_sum-append (k ∷ bits) more = omega (arith, power_sum-append bits more)

-- a range with one more number
range-more : (a n : ℕ) → range_with_len a (suc n) ≡ range_with_len a n ++ (a + n) ∷ []
range-more a zero = ap (λ i. i ∷ []) (omega arith)
range-more a (suc n) =
    ap (λ xs. a ∷ xs) (range-more (a + 1) n ∙ ap (λ i. range_with_len (a + 1) n ++ i ∷ []) (omega arith))

-- the positions up to n are those below n, and n if that bit is 1
bits_below-suc : (number n : ℕ)
    → bits_below number (suc n) ≡ bits_below number n ++ cond (eqb (bit_at number n) 1) (n ∷ []) []
bits_below-suc number n =
    ap (filter (λ k. eqb (bit_at number k) 1)) (range-more 0 n ∙ ap (λ i. range_with_len 0 n ++ i ∷ []) (omega arith))
    ∙ filter-append (λ k. eqb (bit_at number k) 1) (range_with_len 0 n) (n ∷ [])

-- the same, as a loop counts
pub bits_below-more : (number n : ℕ)
    → bits_below number (n + 1) ≡ bits_below number n ++ cond (eqb (bit_at number n) 1) (n ∷ []) []
bits_below-more number n = ap (bits_below number) (add-one n) ∙ bits_below-suc number n

-- what a bit that is 1 adds, and one that is 0
pub put_set : (number k : ℕ) (old : List ℕ)
    → bit_and (number / 2 ^ k) 1 ≡ 1
    → old ++ k ∷ [] ≡ old ++ cond (eqb (bit_at number k) 1) (k ∷ []) []
put_set number k old is =
    ap (λ b. old ++ cond b (k ∷ []) []) (sym (eq-eqb (bit_at number k) 1 (sym (shr_and_one number k) ∙ is)))

pub put_clear : (number k : ℕ) (old : List ℕ)
    → bit_and (number / 2 ^ k) 1 ≢ 1
    → old ≡ old ++ cond (eqb (bit_at number k) 1) (k ∷ []) []
put_clear number k old is =
    sym (ap (λ b. old ++ cond b (k ∷ []) []) (ne_eqb (bit_at number k) 1 (λ e. is (shr_and_one number k ∙ e)))
    ∙ append-nil old)

-- one bit as a part of the sum
last-bit : (number n : ℕ) → power_sum (cond (eqb (bit_at number n) 1) (n ∷ []) []) ≡ (number / 2 ^ n % 2) * 2 ^ n
last-bit number n = grind (arith, nat_tests)

-- the powers of two add up to the number's lowest n bits
power_sum-below : (number n : ℕ) → power_sum (bits_below number n) ≡ number % 2 ^ n
power_sum-below number zero = sym (mod-one number)
power_sum-below number (suc n) =
    ap power_sum (bits_below-suc number n)
    ∙ (power_sum-append (bits_below number n) (cond (eqb (bit_at number n) 1) (n ∷ []) [])
    ∙ summed number n (power_sum-below number n))
  where
    summed : (number n : ℕ)
        → power_sum (bits_below number n) ≡ number % 2 ^ n
        → power_sum (bits_below number n) + power_sum (cond (eqb (bit_at number n) 1) (n ∷ []) []) ≡ number % 2 ^ suc n
    summed number n lower =
        let upper = last-bit number n in
        let whole : number % 2 ^ (1 + n) ≡ (number / 2 ^ n % 2 ^ 1) * 2 ^ n + number % 2 ^ n = mod-pow-add number 1 n in
        let same : number % 2 ^ suc n ≡ number % 2 ^ (1 + n) = ap (λ i. number % 2 ^ i) (omega arith) in
        omega arith

-- each position is below the end of the range
range-below : (a n end : ℕ) → a + n ≤ end → All (λ k. k < end) (range_with_len a n)
range-below a zero end le = All-nil (λ k. k < end)
range-below a (suc n) end le =
    All-cons (λ k. k < end) a (range_with_len (a + 1) n) (omega arith) (range-below (a + 1) n end (omega arith))

-- a word's bits are below 64
pub set_bits-low : (word : ℤ) → All (λ k. k < 64) (set_bits word)
unfolding set_bits
set_bits-low word =
    All-filter (λ k. eqb (bit_at (unsigned_of word) k) 1) (λ k. k < 64) (range_with_len 0 64)
    (range-below 0 64 64 (omega arith))

-- their powers of two add up to the word
pub set_bits-sum : (word : ℤ) → IsWord word → power_sum (set_bits word) ≡ unsigned_of word
unfolding set_bits
set_bits-sum word fits = power_sum-below (unsigned_of word) 64 ∙ mod-eq_of_lt (Fits-of_z fits).fits

-- the bits that a loop has found at its end
pub set_bits-found : (word : ℤ) (number end : ℕ) (found : List ℕ)
    → found ≡ bits_below number end
    → number ≡ unsigned_of word
    → 64 ≤ end
    → end ≤ 64
    → found ≡ set_bits word
unfolding set_bits
set_bits-found word number end found e same low high =
    let whole : end ≡ 64 = omega arith in
    e ∙ (ap (λ j. bits_below number j) whole ∙ ap (λ n. bits_below n 64) same)
