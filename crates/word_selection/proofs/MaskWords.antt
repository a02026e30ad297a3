-- Masks are words of ones or of zeros: how one is made from a comparison, and what it chooses.
use Rattle.std.proofs.Common.{◌≡◌, ℕ, ◌-◌, ◌%◌, ◌^◌, ◌<◌, ◌≤◌, Bool, true, false, not, cond, leb, ℤ, pos, negsuc, refl, sym, ap, ◌∙◌, arith, w64, ⊎_elim}
use Rattle.std.specs.Prelude.{◌-ℤ◌}
use Rattle.std.specs.Int.{cast_signed, int_wrap}
use Rattle.std.specs.Int.Bits.{bit_xor, xor_self, xor_zero_l, xor_zero_r, xor_assoc, and_zero_r}
use Rattle.std.proofs.lemmas.Bool.{cases_lt, le-leb, lt-leb}
use Rattle.std.proofs.lemmas.Int.{ints, to_z-of_z, of_z-to_z, int_wrap_fits}
use Rattle.std.proofs.lemmas.Nat.{and_mask, xor_comm}
use Rattle.std.proofs.Math.Nat.{mod-eq_of_lt, div-eq_of_lt}
use Rattle.std.proofs.Math.Facts.{Fits-of_z, Fits-xor}
use Rattle.gr_word.specs.declared.operations.Op.TheVariants.{Sub, And, Xor, Shr}
use Rattle.gr_word.specs.Prelude.{IsWord, applied, unsigned_of}
use Rattle.gr_word.proofs.Words.{IsWord-applied}

-- all ones if a test is true, and otherwise 0
abbrev pub mask_of : Bool → ℤ
mask_of true = negsuc 0
mask_of false = pos 0

-- ---- bits

xor-nothing : (a : ℤ) → IsWord a → applied Xor a (pos 0) ≡ a
xor-nothing a fits = ap (cast_signed w64) (xor_zero_r (unsigned_of a)) ∙ to_z-of_z w64 a fits

nothing-xor : (a : ℤ) → IsWord a → applied Xor (pos 0) a ≡ a
nothing-xor a fits = ap (cast_signed w64) (xor_zero_l (unsigned_of a)) ∙ to_z-of_z w64 a fits

and-nothing : (a : ℤ) → applied And a (pos 0) ≡ pos 0
and-nothing a = ap (cast_signed w64) (and_zero_r (unsigned_of a))

and-ones : (a : ℤ) → IsWord a → applied And a (negsuc 0) ≡ a
and-ones a fits =
    ap (cast_signed w64) (and_mask (unsigned_of a) 64 ∙ mod-eq_of_lt (Fits-of_z fits).fits) ∙ to_z-of_z w64 a fits

-- the bits of a word that two words differ in, and one of them, are the other
xor-bits : (a b : ℤ) → IsWord a → IsWord b → unsigned_of (applied Xor a b) ≡ bit_xor (unsigned_of a) (unsigned_of b)
xor-bits a b fa fb =
    of_z-to_z w64 (bit_xor (unsigned_of a) (unsigned_of b)) (Fits-xor (Fits-of_z fa) (Fits-of_z fb)).fits

xor-first : (m n : ℕ) → bit_xor (bit_xor m n) m ≡ n
xor-first m n =
    ap (λ k. bit_xor k m) (xor_comm m n) ∙ xor_assoc n m m ∙ ap (bit_xor n) (xor_self m) ∙ xor_zero_r n

xor-second : (m n : ℕ) → bit_xor (bit_xor m n) n ≡ m
xor-second m n = xor_assoc m n n ∙ ap (bit_xor m) (xor_self n) ∙ xor_zero_r m

back-to_second : (a b : ℤ) → IsWord a → IsWord b → applied Xor (applied Xor a b) a ≡ b
back-to_second a b fa fb =
    ap (λ n. cast_signed w64 (bit_xor n (unsigned_of a))) (xor-bits a b fa fb)
    ∙ ap (cast_signed w64) (xor-first (unsigned_of a) (unsigned_of b))
    ∙ to_z-of_z w64 b fb

back-to_first : (a b : ℤ) → IsWord a → IsWord b → applied Xor (applied Xor a b) b ≡ a
back-to_first a b fa fb =
    ap (λ n. cast_signed w64 (bit_xor n (unsigned_of b))) (xor-bits a b fa fb)
    ∙ ap (cast_signed w64) (xor-second (unsigned_of a) (unsigned_of b))
    ∙ to_z-of_z w64 a fa

xor-turned : (a b : ℤ) → applied Xor a b ≡ applied Xor b a
xor-turned a b = ap (cast_signed w64) (xor_comm (unsigned_of a) (unsigned_of b))

-- ---- what a mask chooses

-- the first word if the mask has ones, and otherwise the second
pub chosen_is : (p : Bool) (a b : ℤ) → IsWord a → IsWord b
    → applied Xor b (applied And (applied Xor a b) (mask_of p)) ≡ cond p a b
chosen_is true a b fa fb =
    ap (applied Xor b) (and-ones (applied Xor a b) (IsWord-applied Xor a b fa fb))
    ∙ xor-turned b (applied Xor a b)
    ∙ back-to_first a b fa fb
chosen_is false a b fa fb = ap (applied Xor b) (and-nothing (applied Xor a b)) ∙ xor-nothing b fb

-- the second word if the mask has ones, and otherwise the first
pub exchanged_is : (p : Bool) (a b : ℤ) → IsWord a → IsWord b
    → applied Xor (applied And (applied Xor a b) (mask_of p)) a ≡ cond p b a
exchanged_is true a b fa fb =
    ap (λ d. applied Xor d a) (and-ones (applied Xor a b) (IsWord-applied Xor a b fa fb)) ∙ back-to_second a b fa fb
exchanged_is false a b fa fb = ap (λ d. applied Xor d a) (and-nothing (applied Xor a b)) ∙ nothing-xor a fa

-- the first word if the mask has ones, and otherwise the second, where the second is what stays
pub restored_is : (p : Bool) (a b : ℤ) → IsWord a → IsWord b
    → applied Xor (applied And (applied Xor a b) (mask_of p)) b ≡ cond p a b
restored_is true a b fa fb =
    ap (λ d. applied Xor d b) (and-ones (applied Xor a b) (IsWord-applied Xor a b fa fb)) ∙ back-to_first a b fa fb
restored_is false a b fa fb = ap (λ d. applied Xor d b) (and-nothing (applied Xor a b)) ∙ nothing-xor b fb

-- two masks differ if one test is true and the other isn't
pub masks_differ : (p q : Bool) → applied Xor (mask_of p) (mask_of q) ≡ mask_of (cond p (not q) q)
masks_differ true true = refl
masks_differ true false = refl
masks_differ false true = refl
masks_differ false false = refl

-- ---- how a mask is made

abbrev pub shift_of : ℕ → ℕ
shift_of limit = (limit - 1) % 64

-- a limit that has enough places to shift out a difference of two numbers up to a bound
abbrev pub mask_word : (limit : ℕ) → ℤ → ℤ
mask_word limit number =
    applied Shr (applied Sub (pos (limit - 1)) number) (pos (limit - 1))

below-limit : (limit n : ℕ) → n < limit → limit < 2 ^ 63 → pos (limit - 1) -ℤ pos n ≡ pos (limit - 1 - n)
below-limit limit n less small = omega (arith, ints)

from-limit : (limit n : ℕ) → 1 ≤ limit → limit ≤ n → pos (limit - 1) -ℤ pos n ≡ negsuc (n - limit)
from-limit limit n least le = omega (arith, ints)

-- a mask says whether a number is at least the limit
pub mask_made : (limit n : ℕ) → 1 ≤ limit → limit < 2 ^ 63 → n < 2 ^ 63 → limit ≤ 2 ^ shift_of limit
    → n < 2 ^ shift_of limit
    → mask_word limit (pos n) ≡ mask_of (leb limit n)
mask_made limit n least small number enough inside =
    ⊎_elim
    (λ (less : n < limit).
    ap (λ d. applied Shr d (pos (limit - 1)))
    (ap (int_wrap w64) (below-limit limit n less small)
    ∙ int_wrap_fits w64 (pos (limit - 1 - n)) (record { sfits = omega arith }))
    ∙ ap pos (div-eq_of_lt (let some : limit - 1 - n < 2 ^ shift_of limit = omega arith in some))
    ∙ sym (ap mask_of (lt-leb limit n less)))
    (λ (le : limit ≤ n).
    ap (λ d. applied Shr d (pos (limit - 1)))
    (ap (int_wrap w64) (from-limit limit n least le)
    ∙ int_wrap_fits w64 (negsuc (n - limit)) (record { sfits = omega arith }))
    ∙ ap negsuc (div-eq_of_lt (let some : n - limit < 2 ^ shift_of limit = omega arith in some))
    ∙ sym (ap mask_of (le-leb limit n le)))
    (cases_lt n limit)
