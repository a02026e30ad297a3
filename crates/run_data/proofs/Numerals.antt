-- The decimal text of a number is ASCII, and has no space and no line feed.
use Rattle.std.proofs.Common.{◌≡◌, ℕ, suc, ◌<◌, ◌≤◌, ◌^◌, false, eqb, ℤ, pos, negsuc, List, length, get_or, All, subst, arith, decimal}
use Rattle.std.specs.Fmt.{signed_decimal}
use Rattle.std.specs.Int.{IsInRange}
use Rattle.std.specs.Int.Signed.{mag}
use Rattle.std.specs.Str.{IsUtf8}
use Rattle.std.proofs.lemmas.Fmt.{IsAscii-signed, digits_decimal, length-decimal-le}
use Rattle.std.proofs.lemmas.Bool.{ne_eqb}
use Rattle.std.proofs.lemmas.List.{get_or_default}
use Rattle.std.proofs.lemmas.List.Elements.{All-cons}
use Rattle.std.proofs.lemmas.Str.{IsUtf8-from_ascii}
use Rattle.std.proofs.lemmas.Str.Parse.{digit_at, tells_digits, numerals_by_value}
use Rattle.std.specs.Str.Parse.{AllDigits}
use Rattle.gr_word.specs.Prelude.{IsWord}

-- the magnitude that the lemmas on signed texts ask for
pub mag-word : (z : ℤ) → IsWord z → mag z < 2 ^ 63
mag-word z fits = omega (arith, fits.sfits)

-- so is that of a word
pub IsUtf8-signed : (z : ℤ) → IsWord z → IsUtf8 (signed_decimal z)
IsUtf8-signed z fits = IsUtf8-from_ascii (signed_decimal z) (IsAscii-signed z (mag-word z fits))

-- the byte isn't this one
abbrev pub Without : ℕ → List ℕ → Type 0
Without c bytes = All (λ byte. eqb byte c ≡ false) bytes

-- the text of a number has no byte below `-`
pub Without-decimal : (c n : ℕ) → c < 45 → n < 2 ^ 64 → Without c (decimal n)
Without-decimal c n low below = λ i d within.
    let digit : IsInRange 48 57 (get_or (decimal n) i 0) =
    digit_at (decimal n) i (digits_decimal (numerals_by_value (AllDigits 10) tells_digits) n below) within in
    subst (λ byte. eqb byte c ≡ false) (get_or_default (decimal n) i 0 d within)
    (ne_eqb (get_or (decimal n) i 0) c (omega (arith, digit.0)))

-- so has that of a word
pub Without-signed : (c : ℕ) (z : ℤ) → c < 45 → IsWord z → Without c (signed_decimal z)
Without-signed c (pos n) low fits = Without-decimal c n low (omega (arith, fits.sfits))
Without-signed c (negsuc n) low fits =
    All-cons (λ byte. eqb byte c ≡ false) 45 (decimal (suc n)) (ne_eqb 45 c (omega (arith, low)))
    (Without-decimal c (suc n) low (omega (arith, fits.sfits)))

-- a number of 32 bits has ten digits at most
pub short_number : (n : ℕ) → n < 2 ^ 32 → length (decimal n) ≤ 10
short_number n below = length-decimal-le 10 n (omega arith) (omega (arith, below)) (omega (arith, below))
