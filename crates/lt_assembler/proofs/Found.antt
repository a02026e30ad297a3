-- What is known about a value that was read.
use Rattle.std.proofs.Common.{◌≡◌, ℕ, suc, ◌<◌, ◌≤◌, Bool, true, false, cond, [], ◌∷◌, length, Option, Some, Result, refl, sym, ap, subst, ◌∙◌, arith}
use Rattle.std.specs.Prelude.{◌&&◌, option_map, ℤ, pos, ◌^◌, ◌-◌, decimal}
use Rattle.std.specs.Fmt.{signed_decimal}
use Rattle.std.specs.Str.Parse.{digits_value}
use Rattle.std.proofs.lemmas.Bool.{and_parts, eqb-true}
use Rattle.std.proofs.lemmas.Int.{ints}
use Rattle.std.proofs.lemmas.Int.Digits.{digits_value-lt}
use Rattle.std.proofs.lemmas.Option.{cond_some}
use Rattle.gr_word.specs.Prelude.{IsWord}
use Rattle.lt_isa.specs.Prelude.{IsOffset}
use Rattle.lt_assembler.specs.declared.faults.Fault.{Fault}
use Rattle.lt_assembler.specs.Prelude.{Word, offset_word, is_number, number_within, negative, begins_with, but_first, constant_of, forward_of, backward_of, unless_not}
use Rattle.gr_base.specs.Prelude.{is_within, ◌>>=◌}
use Rattle.gr_base.proofs.Digits.{numeral_text}
use Rattle.gr_base.proofs.ListTests.{Within-is_within}
use Rattle.gr_base.proofs.Results.{IfRead, read_err, mapped}
use Rattle.lt_assembler.proofs.Digits.{number_word}

-- a test before the rest
pub read_if : {B : Type 0} (fault : Fault) (b : Bool) (f : Unit {0} → Result B Fault) (P : B → Type 0)
    → (b ≡ true → IfRead (f tt) P) → IfRead (unless_not fault b >>= f) P
read_if fault true f P k = k refl
read_if fault false f P k = read_err fault P

-- numbers

number_text : (word : Word) → is_number word ≡ true → decimal (digits_value 10 word) ≡ word
number_text word e =
    let whole = number_word word e in
    let value : digits_value 10 word < 10 ^ length word = digits_value-lt 10 word whole.digits in
    numeral_text word whole.canonical (omega (arith, value, whole.fits))

-- the word is a number in a range
abbrev pub IsNumber : ℕ → ℕ → Word → ℕ → Type 0
IsNumber low high word n = (low ≤ n) × (n ≤ high) × (word ≡ decimal n)

-- the number that a word writes
pub number_from : (low high : ℕ) (word : Word) (n : ℕ) → number_within low high word ≡ Some n → IsNumber low high word n
unfolding number_within
number_from low high word n e =
    let found = cond_some (is_number word && is_within low high (digits_value 10 word)) (digits_value 10 word) n e in
    let p = and_parts _ _ found.0 in
    let q = Within-is_within low high (digits_value 10 word) p.1 in
    subst (IsNumber low high word) found.1 (q.0, q.1, sym (number_text word p.0))

-- a word that begins with a byte
pub first_byte : (byte : ℕ) (word : Word) → 0 < byte → begins_with byte word ≡ true → word ≡ byte ∷ but_first word
first_byte byte [] some e = absurd (let same : 0 ≡ byte = eqb-true 0 byte e in omega arith)
first_byte byte (b ∷ word) some e = ap (λ x. x ∷ word) (eqb-true b byte e)

-- the word writes a constant
abbrev pub IsConstant : Word → ℤ → Type 0
IsConstant word z = IsWord z × (word ≡ signed_decimal z)

-- the word writes an offset, with its sign
abbrev pub IsSigned : Word → ℤ → Type 0
IsSigned word z = IsOffset z × (word ≡ offset_word z)

positive_constant : (word : Word) (n : ℕ) → IsNumber 0 (2 ^ 63 - 1) word n → IsConstant word (pos n)
positive_constant word n h = (omega (arith, ints, h.1), h.2)

negative_number : (n : ℕ) → 1 ≤ n → suc (n - 1) ≡ n
negative_number n h = omega arith

negative_constant : (rest : Word) (n : ℕ) → IsNumber 1 (2 ^ 63) rest n → IsConstant (45 ∷ rest) (negative n)
negative_constant rest n h =
    (omega (arith, ints, h.0, h.1), ap (λ (t : Word). 45 ∷ t) (h.2 ∙ ap decimal (sym (negative_number n h.0))))

forward_offset : (rest : Word) (n : ℕ) → IsNumber 0 (2 ^ 31 - 1) rest n → IsSigned (43 ∷ rest) (pos n)
forward_offset rest n h = (omega (arith, ints, h.1), ap (λ (t : Word). 43 ∷ t) h.2)

backward_offset : (rest : Word) (n : ℕ) → IsNumber 1 (2 ^ 31) rest n → IsSigned (45 ∷ rest) (negative n)
backward_offset rest n h =
    (omega (arith, ints, h.0, h.1), ap (λ (t : Word). 45 ∷ t) (h.2 ∙ ap decimal (sym (negative_number n h.0))))

-- one of two values that may be missing, if the result of the test is known
pub by_answer : {A : Type 0} (b : Bool) (x y : Option A) (P : A → Type 0) → (b ≡ true → (z : A) → x ≡ Some z → P z)
    → (b ≡ false → (z : A) → y ≡ Some z → P z) → (z : A) → cond b x y ≡ Some z → P z
by_answer true x y P h k = h refl
by_answer false x y P h k = k refl

-- the constant that a word writes
pub constant_from : (word : Word) (z : ℤ) → constant_of word ≡ Some z → IsConstant word z
unfolding constant_of
constant_from word z e =
    by_answer (begins_with 45 word) _ _ (IsConstant word)
    (λ minus.
    subst (λ w. (y : ℤ) → option_map negative (number_within 1 (2 ^ 63) (but_first word)) ≡ Some y → IsConstant w y)
    (sym (first_byte 45 word (omega arith) minus))
    (mapped (number_within 1 (2 ^ 63) (but_first word)) negative (IsNumber 1 (2 ^ 63) (but_first word))
    (IsConstant (45 ∷ but_first word))
    (number_from 1 (2 ^ 63) (but_first word)) (negative_constant (but_first word))))
    (λ _. mapped (number_within 0 (2 ^ 63 - 1) word) pos (IsNumber 0 (2 ^ 63 - 1) word) (IsConstant word)
    (number_from 0 (2 ^ 63 - 1) word) (positive_constant word)) z e

-- the offset after a `+`
pub forward_from : (rest : Word) (z : ℤ) → forward_of rest ≡ Some z → IsSigned (43 ∷ rest) z
unfolding forward_of
forward_from rest =
    mapped (number_within 0 (2 ^ 31 - 1) rest) pos (IsNumber 0 (2 ^ 31 - 1) rest) (IsSigned (43 ∷ rest))
    (number_from 0 (2 ^ 31 - 1) rest) (forward_offset rest)

-- the offset after a `-`
pub backward_from : (rest : Word) (z : ℤ) → backward_of rest ≡ Some z → IsSigned (45 ∷ rest) z
unfolding backward_of
backward_from rest =
    mapped (number_within 1 (2 ^ 31) rest) negative (IsNumber 1 (2 ^ 31) rest) (IsSigned (45 ∷ rest))
    (number_from 1 (2 ^ 31) rest) (backward_offset rest)
