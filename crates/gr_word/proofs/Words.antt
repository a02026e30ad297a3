-- The results of the machine's operations are words.
use Rattle.std.proofs.Common.{ℕ, zero, suc, ◌+◌, ◌/◌, ◌%◌, ◌^◌, ◌<◌, ◌≤◌, true, false, cond, ℤ, pos, negsuc, arith, neg_ℤ}
use Rattle.std.specs.Prelude.{int_div, int_rem}
use Rattle.std.specs.Int.{w64, cast_signed, cast_unsigned, int_wrapping_div}
use Rattle.std.specs.Int.Signed.{mag, mag_rem, mag_shr}
use Rattle.std.proofs.lemmas.Int.{SFits-int_wrap}
use Rattle.std.proofs.Math.Facts.{sfits_to_z, Fits-of_z, Fits-and, Fits-or, Fits-xor, Fits-mod, sfits_lit}
use Rattle.std.proofs.Math.Nat.{mod-lt, div-le_self}
use Rattle.std.proofs.lemmas.Nat.{pow_pos}
use Rattle.gr_word.specs.declared.operations.Op.{Op}
use Rattle.gr_word.specs.declared.operations.Op.TheVariants.{Add, Sub, Mul, Div, Rem, Remu, And, Or, Xor, Shl, Shr}
use Rattle.gr_word.specs.Prelude.{IsWord, applied, is_zero, unless_zero, unsigned_of}

-- a number below 2^64 is a word if it is read as a signed number
IsWord-cast : (n : ℕ) → n < 2 ^ 64 → IsWord (cast_signed w64 n)
IsWord-cast n below = sfits_to_z (record { fits = below })

IsWord-unless : (divisor otherwise at_zero : ℤ)
    → IsWord otherwise → IsWord at_zero → IsWord (unless_zero divisor otherwise at_zero)
IsWord-unless divisor otherwise at_zero first second =
    elim (is_zero divisor) as (λ b. IsWord (cond b at_zero otherwise)) [ true ↦ second | false ↦ first ]

-- a number whose magnitude isn't above that of a word is a word
IsWord-below : (z a : ℤ) → mag z ≤ mag a → IsWord a → IsWord z
IsWord-below z a le fits = record { sfits = omega (arith, fits.sfits) }

-- a quotient of words is a word: only -2^63 by -1 has a magnitude above that of each word, and it wraps
cast_unsigned-below : (z : ℤ) → mag z ≤ 2 ^ 63 → cast_unsigned w64 z < 2 ^ 64
cast_unsigned-below (pos n) le = omega arith
cast_unsigned-below (negsuc n) le = omega arith

mag-neg_pos : (n : ℕ) → mag (neg_ℤ (pos n)) ≤ n
mag-neg_pos zero = omega arith
mag-neg_pos (suc n) = omega arith

mag-quotient : (a b : ℤ) → mag (int_div a b) ≤ mag a + 1
mag-quotient (pos a) (pos b) = omega (arith, div-le_self a b)
mag-quotient (pos a) (negsuc b) = omega (arith, mag-neg_pos (a / suc b), div-le_self a (suc b))
mag-quotient (negsuc a) (pos b) = omega (arith, mag-neg_pos (suc a / b), div-le_self (suc a) b)
mag-quotient (negsuc a) (negsuc b) = omega (arith, div-le_self (suc a) (suc b))

IsWord-quotient : (a b : ℤ) → IsWord a → IsWord (int_wrapping_div w64 a b)
IsWord-quotient a b fits =
    IsWord-cast (cast_unsigned w64 (int_div a b))
    (cast_unsigned-below (int_div a b) (omega (arith, mag-quotient a b, fits.sfits)))

-- an operation on words results in a word
pub IsWord-applied : (op : Op) (a b : ℤ) → IsWord a → IsWord b → IsWord (applied op a b)
IsWord-applied Div a b fa fb = IsWord-unless b _ _ (IsWord-quotient a b fa) (sfits_lit tt)
IsWord-applied Rem a b fa fb = IsWord-unless b _ _ (IsWord-below (int_rem a b) a (mag_rem a b) fa) fa
IsWord-applied Remu a b fa fb = IsWord-unless b _ _ (sfits_to_z (Fits-mod (unsigned_of b) (Fits-of_z fa))) fa
IsWord-applied And a b fa fb = sfits_to_z (Fits-and (unsigned_of b) (Fits-of_z fa))
IsWord-applied Or a b fa fb = sfits_to_z (Fits-or (Fits-of_z fa) (Fits-of_z fb))
IsWord-applied Xor a b fa fb = sfits_to_z (Fits-xor (Fits-of_z fa) (Fits-of_z fb))
IsWord-applied Shl a b fa fb = IsWord-cast _ (mod-lt _ (pow_pos 64))
IsWord-applied Shr a b fa fb = IsWord-below _ a (mag_shr a (2 ^ (unsigned_of b % 64))) fa
IsWord-applied other a b fa fb = SFits-int_wrap w64 _
