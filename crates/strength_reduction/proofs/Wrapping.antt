-- Sums, products and shifts of words as numbers modulo 2^64.
use Rattle.std.proofs.Common.{◌≡◌, ℕ, ◌+◌, ◌*◌, ◌%◌, ◌^◌, ◌<◌, ℤ, pos, sym, ap, ◌∙◌, arith, w64, mod-lt}
use Rattle.std.specs.Int.{cast_signed}
use Rattle.std.specs.Int.Bits.{xor_self}
use Rattle.std.proofs.lemmas.Int.{to_z-of_z, wrapping_add-bits, wrapping_mul_is}
use Rattle.std.proofs.lemmas.Nat.{pow_pos}
use Rattle.std.proofs.Math.Nat.{add-mod, mod-eq_of_lt, mul_comm}
use Rattle.std.proofs.Math.Facts.{Fits-of_z}
use Rattle.gr_word.specs.declared.operations.Op.TheVariants.{Add, Mul, Xor, Shl}
use Rattle.gr_word.specs.Prelude.{IsWord, applied, unsigned_of}

-- a number modulo 2^64, as a word
abbrev pub wrapped : ℕ → ℤ
wrapped n = cast_signed w64 (n % 2 ^ 64)

below-all : (n : ℕ) → n % 2 ^ 64 < 2 ^ 64
below-all n = mod-lt n (pow_pos 64)

-- a word is its unsigned value
pub word-wrapped : (word : ℤ) → IsWord word → wrapped (unsigned_of word) ≡ word
word-wrapped word fits = ap (cast_signed w64) (mod-eq_of_lt (Fits-of_z fits).fits) ∙ to_z-of_z w64 word fits

pub add-wrapped : (m n : ℕ) → applied Add (wrapped m) (wrapped n) ≡ wrapped (m + n)
add-wrapped m n =
    sym (wrapping_add-bits w64 (m % 2 ^ 64) (n % 2 ^ 64) (below-all m) (below-all n))
    ∙ ap (cast_signed w64) (sym (add-mod m n (2 ^ 64)))

pub mul-wrapped : (a b : ℤ) → IsWord a → IsWord b → applied Mul a b ≡ wrapped (unsigned_of a * unsigned_of b)
mul-wrapped a b fa fb = sym (wrapping_mul_is w64 a b fa fb)

pub shl-wrapped : (a : ℤ) (k : ℕ) → k < 64 → applied Shl a (pos k) ≡ wrapped (unsigned_of a * 2 ^ k)
shl-wrapped a k below = ap (λ j. wrapped (unsigned_of a * 2 ^ j)) (small k below)
  where
    small : (k : ℕ) → k < 64 → k % 64 ≡ k
    small k below = omega arith

pub xor-same : (a : ℤ) → applied Xor a a ≡ pos 0
xor-same a = ap (cast_signed w64) (xor_self (unsigned_of a))

-- the order of the factors is free
pub mul-turned : (a b : ℤ) → IsWord a → IsWord b → applied Mul a b ≡ applied Mul b a
mul-turned a b fa fb =
    mul-wrapped a b fa fb
    ∙ (ap wrapped (mul_comm (unsigned_of a) (unsigned_of b)) ∙ sym (mul-wrapped b a fb fa))
