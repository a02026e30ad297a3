-- The values of digits, and the canonical numeral of a number.
use Rattle.std.proofs.Common.{◌≡◌, ℕ, zero, suc, ◌+◌, ◌*◌, ◌^◌, ◌<◌, ◌≤◌, Bool, true, false, not, eqb, List, [], ◌∷◌, length, get_or, take, refl, sym, subst, ap, ◌∙◌, arith}
use Rattle.std.specs.Prelude.{◌||◌, decimal}
use Rattle.std.specs.Char.{is_ascii_digit, digit_value}
use Rattle.std.specs.Str.Parse.{AllDigits, digits_value}
use Rattle.std.proofs.Math.Nat.{pow-le-pow_right}
use Rattle.std.proofs.lemmas.Bool.{and_parts, and_from, leb-true, le-leb}
use Rattle.std.proofs.lemmas.Bool.Decides.{nat_tests}
use Rattle.std.proofs.lemmas.Fmt.{decimal_is_IsNumeral, decimal_digit, first_decimal, decimal-digits_value}
use Rattle.std.proofs.lemmas.Int.Digits.{digits_value-lt, digits_value_more}
use Rattle.std.proofs.lemmas.List.{length-take-le}
use Rattle.std.proofs.lemmas.Str.Parse.{tells_digits, numerals_by_value}
use Rattle.gr_base.specs.Prelude.{are_digits, is_canonical_numeral, IsNumeralOf, OneNumeral}

pub AllDigits-take : (radix i : ℕ) (ds : List ℕ) → AllDigits radix ds → AllDigits radix (take i ds)
AllDigits-take radix zero ds all = tt
AllDigits-take radix (suc i) [] all = tt
AllDigits-take radix (suc i) (d ∷ ds) all = (all.0, AllDigits-take radix i ds all.1)

-- each of the digits is a digit
pub AllDigits-at : (radix : ℕ) (ds : List ℕ) (i : ℕ)
    → AllDigits radix ds → i < length ds → digit_value (get_or ds i 0) < radix
AllDigits-at radix [] i all lt = absurd (omega arith)
AllDigits-at radix (d ∷ ds) zero all lt = all.0
AllDigits-at radix (d ∷ ds) (suc i) all lt = AllDigits-at radix ds i all.1 (omega arith)

-- the value fits with one more digit
pub digits_fit : (radix : ℕ) (ds : List ℕ) (i : ℕ) → AllDigits radix ds → radix ^ length ds ≤ 2 ^ 64 → i < length ds
    → digits_value radix (take i ds) * radix + digit_value (get_or ds i 0) < 2 ^ 64
digits_fit radix ds i all short lt =
    let here = AllDigits-at radix ds i all lt in
    let positive : 0 < radix = omega arith in
    let size : length (take (i + 1) ds) ≡ i + 1 = length-take-le (i + 1) ds (omega arith) in
    let below : digits_value radix (take (i + 1) ds) < radix ^ length (take (i + 1) ds) =
    digits_value-lt radix (take (i + 1) ds) (AllDigits-take radix (i + 1) ds all) in
    let small : radix ^ (i + 1) ≤ radix ^ length ds = pow-le-pow_right positive (omega arith) in
    let e = digits_value_more radix ds i lt in
    let bound : digits_value radix (take (i + 1) ds) < radix ^ (i + 1) = rw size at below in
    omega (arith, e, bound, small, short)

-- decimal digits, as a test and as a fact

digit_from_test : (c : ℕ) → is_ascii_digit c ≡ true → digit_value c < 10
digit_from_test c e = grind (arith, nat_tests)

digit_test : (c : ℕ) → digit_value c < 10 → is_ascii_digit c ≡ true
digit_test c h = grind (arith, nat_tests)

-- decimal digits, by their test
pub AllDigits-test : (ds : List ℕ) → are_digits ds ≡ true → AllDigits 10 ds
AllDigits-test [] e = tt
AllDigits-test (d ∷ ds) e = let p = and_parts _ _ e in (digit_from_test d p.0, AllDigits-test ds p.1)

pub are_digits-from_all : (ds : List ℕ) → AllDigits 10 ds → are_digits ds ≡ true
are_digits-from_all [] h = refl
are_digits-from_all (d ∷ ds) h = and_from _ _ (digit_test d h.0) (are_digits-from_all ds h.1)

-- the decimal text of a number consists of digits
pub decimal_digits : (n : ℕ) → n < 2 ^ 64 → are_digits (decimal n) ≡ true
decimal_digits n small = are_digits-from_all (decimal n) (decimal_is_IsNumeral n small).0.1

-- what a canonical numeral has

pub record IsCanonical (text : List ℕ) : Type 0 where
  pub some : 0 < length text
  pub tested : are_digits text ≡ true
  pub digits : AllDigits 10 text
  pub no_zero : get_or text 0 0 ≡ 48 → length text ≡ 1

no_leading : (size first : ℕ) → (eqb size 1 || not (eqb first 48)) ≡ true → first ≡ 48 → size ≡ 1
no_leading size first e is = grind (arith, nat_tests)

-- a canonical numeral by its test
pub canonical_from_test : (text : List ℕ) → is_canonical_numeral text ≡ true → IsCanonical text
unfolding is_canonical_numeral
canonical_from_test text e =
    let p = and_parts _ _ e in
    let q = and_parts _ _ p.1 in
    record {
      some = leb-true 1 (length text) p.0;
      tested = q.0;
      digits = AllDigits-test text q.0;
      no_zero = no_leading (length text) (get_or text 0 0) q.1;
    }

-- the decimal text of a number has no leading zero, except that of 0
first_test : (n : ℕ) → n < 2 ^ 64 → (eqb (length (decimal n)) 1 || not (eqb (get_or (decimal n) 0 0) 48)) ≡ true
first_test zero small = rw (decimal_digit 0 (omega arith)) refl
first_test (suc n) small =
    let first = first_decimal (suc n) (omega arith) small in
    let other : eqb (get_or (decimal (suc n)) 0 0) 48 ≡ false = grind (arith, nat_tests) in
    by_test (eqb (length (decimal (suc n))) 1) (eqb (get_or (decimal (suc n)) 0 0) 48) other where
      by_test : (a b : Bool) → b ≡ false → (a || not b) ≡ true
      by_test true b e = refl
      by_test false b e = rw e refl

-- the decimal text of a number is a canonical numeral
pub decimal_canonical : (n : ℕ) → n < 2 ^ 64 → is_canonical_numeral (decimal n) ≡ true
unfolding is_canonical_numeral
decimal_canonical n small =
    let h = (decimal_is_IsNumeral n small).0 in
    and_from _ _ (le-leb _ _ (omega (arith, h.0))) (and_from _ _ (decimal_digits n small) (first_test n small))

-- the law, in both directions

-- a canonical numeral is the decimal text of its value
pub numeral_text : (text : List ℕ)
    → is_canonical_numeral text ≡ true → digits_value 10 text < 2 ^ 64 → decimal (digits_value 10 text) ≡ text
numeral_text text e small =
    let h = canonical_from_test text e in
    decimal-digits_value (numerals_by_value (AllDigits 10) tells_digits) text h.digits h.some h.no_zero small

-- the value of a number's decimal text is the number
pub numeral_value : (n : ℕ) → n < 2 ^ 64 → digits_value 10 (decimal n) ≡ n
numeral_value n small = (decimal_is_IsNumeral n small).1

there : (n : ℕ) (text : List ℕ) → n < 2 ^ 64 → IsNumeralOf n text → text ≡ decimal n
there n text small h = sym (numeral_text text h.0 (omega (arith, h.1))) ∙ ap decimal h.1

back : (n : ℕ) (text : List ℕ) → n < 2 ^ 64 → text ≡ decimal n → IsNumeralOf n text
back n text small is = subst (IsNumeralOf n) (sym is) (decimal_canonical n small, numeral_value n small)

-- a number has exactly one canonical numeral
pub one_numeral : OneNumeral
one_numeral n text small = (there n text small, back n text small)
