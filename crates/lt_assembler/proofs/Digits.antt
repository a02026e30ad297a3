-- The numbers that words and masks write.
use Rattle.std.proofs.Common.{◌≡◌, ℕ, ◌^◌, ◌<◌, ◌≤◌, true, List, [], ◌∷◌, length, arith}
use Rattle.std.specs.List.{list_all}
use Rattle.std.specs.Char.{digit_value}
use Rattle.std.specs.Str.Parse.{AllDigits, digits_value}
use Rattle.std.proofs.Math.Nat.{pow-le-pow_right}
use Rattle.std.proofs.lemmas.Bool.{and_parts, leb-true}
use Rattle.std.proofs.lemmas.Bool.Decides.{nat_tests}
use Rattle.std.proofs.lemmas.Int.Digits.{digits_value-lt}
use Rattle.gr_base.specs.Prelude.{is_canonical_numeral}
use Rattle.gr_base.proofs.Digits.{canonical_from_test}
use Rattle.lt_assembler.specs.Prelude.{is_number, is_hex}

-- a canonical numeral of at most 19 digits, whose number fits in 64 bits
pub record IsNumberWord (word : List ℕ) : Type 0 where
  pub canonical : is_canonical_numeral word ≡ true
  pub digits : AllDigits 10 word
  pub short : length word ≤ 19
  pub fits : 10 ^ length word ≤ 2 ^ 64

-- a word that passes the test is a number
pub number_word : (word : List ℕ) → is_number word ≡ true → IsNumberWord word
unfolding is_number
number_word word e =
    let p = and_parts _ _ e in
    let short : length word ≤ 19 = leb-true _ _ p.0 in
    let power : 10 ^ length word ≤ 10 ^ 19 = pow-le-pow_right {n = 10} (omega arith) {i = length word} {j = 19} short in
    record {
      canonical = p.1;
      digits = (canonical_from_test word p.1).digits;
      short = short;
      fits = omega (arith, power);
    }

-- hexadecimal digits
pub hex_digit_value : (c : ℕ) → is_hex c ≡ true → digit_value c < 16
hex_digit_value c e = grind (arith, nat_tests)

-- hexadecimal digits by their test
pub AllDigits-hex : (ds : List ℕ) → list_all is_hex ds ≡ true → AllDigits 16 ds
AllDigits-hex [] e = tt
AllDigits-hex (d ∷ ds) e = let p = and_parts _ _ e in (hex_digit_value d p.0, AllDigits-hex ds p.1)

-- eight hexadecimal digits are a mask
pub mask_fits : (ds : List ℕ) → length ds ≡ 8 → list_all is_hex ds ≡ true → digits_value 16 ds < 2 ^ 32
mask_fits ds size e =
    let below : digits_value 16 ds < 16 ^ length ds = digits_value-lt 16 ds (AllDigits-hex ds e) in rw size at below
