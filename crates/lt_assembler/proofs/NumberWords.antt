-- Numbers that are written are read as the same.
use Rattle.std.proofs.Common.{◌≡◌, ℕ, zero, suc, ◌-◌, ◌*◌, ◌^◌, ◌/◌, ◌%◌, ◌<◌, ◌≤◌, Bool, true, false, eqb, ltb, cond, List, [], ◌∷◌, length, map, Some, refl, sym, ap, arith, length-append}
use Rattle.std.specs.Prelude.{◌||◌, All, IsTrue, ℤ, pos, negsuc, decimal, codes, bytes_eq}
use Rattle.std.specs.Fmt.{signed_decimal}
use Rattle.std.specs.List.{list_all}
use Rattle.std.specs.Char.{digit_value}
use Rattle.std.specs.Str.Parse.{AllDigits, digits_value}
use Rattle.std.proofs.Math.Nat.{pow-suc}
use Rattle.std.proofs.lemmas.List.Elements.{All-head, All-tail}
use Rattle.std.proofs.lemmas.Bool.{and_from, le-leb, eqb-true, ne_eqb}
use Rattle.std.proofs.lemmas.Bool.Decides.{nat_tests}
use Rattle.std.proofs.lemmas.Int.{ints}
use Rattle.std.proofs.lemmas.Int.Digits.{digits_value_push}
use Rattle.std.proofs.lemmas.Fmt.{decimal_is_IsNumeral, length-decimal-le}
use Rattle.std.proofs.lemmas.Str.Parse.{digit_from_value}
use Rattle.gr_base.proofs.Digits.{decimal_canonical, numeral_value}
use Rattle.gr_base.proofs.ListTests.{list_all-push, is_within-Within}
use Rattle.gr_word.specs.Prelude.{IsWord}
use Rattle.lt_isa.specs.Prelude.{IsRegister, IsSlot, is_slot_claim}
use Rattle.lt_assembler.specs.Prelude.{Word, register_word, bank_word, claim_word, hex_digit, hex_word, is_number, number_within, begins_with, constant_of, forward_of, backward_of, register_of, slot_named, bank_named, is_hex, mask_of, claim_of, claims_of}
use Rattle.lt_assembler.proofs.Splitting.{on_test}
use Rattle.lt_assembler.proofs.PlainWords.{is_plain, IsPlain}

digit_plain : (c : ℕ) → digit_value c < 10 → is_plain c ≡ true
digit_plain c h = grind (arith, nat_tests)

digits_plain : (ds : List ℕ) → AllDigits 10 ds → list_all is_plain ds ≡ true
digits_plain [] h = refl
digits_plain (d ∷ ds) h = and_from _ _ (digit_plain d h.0) (digits_plain ds h.1)

-- a word of digits has a first byte
pub record IsDigits (word : Word) : Type 0 where
  pub digits : AllDigits 10 word
  pub first : ℕ
  pub rest : List ℕ
  pub whole : word ≡ first ∷ rest
  pub low : 48 ≤ first
  pub high : first ≤ 57

digits_of_word : (word : Word) → AllDigits 10 word → 0 < length word → IsDigits word
digits_of_word [] h some = absurd (omega arith)
digits_of_word (c ∷ cs) h some =
    let range = digit_from_value c h.0 in
    record { digits = h; first = c; rest = cs; whole = refl; low = range.0; high = range.1 }

-- the decimal text of a number consists of digits
pub decimal_digits : (n : ℕ) → n < 2 ^ 64 → IsDigits (decimal n)
decimal_digits n small = let h = (decimal_is_IsNumeral n small).0 in digits_of_word (decimal n) h.1 h.0

plain_word : (word : Word) → IsDigits word → IsPlain word
plain_word word h = record { some = rw h.whole refl; bytes = digits_plain word h.digits }

-- the decimal text of a number has no blanks
pub decimal_plain : (n : ℕ) → n < 2 ^ 64 → IsPlain (decimal n)
decimal_plain n small = plain_word (decimal n) (decimal_digits n small)

number_test : (n : ℕ) → n < 10 ^ 19 → is_number (decimal n) ≡ true
unfolding is_number
number_test n small =
    and_from _ _ (le-leb _ _ (length-decimal-le 19 n (omega arith) small (omega arith)))
    (decimal_canonical n (omega arith))

-- each operand is read from what is written: a number
pub number_again : (low high n : ℕ) → low ≤ n → n ≤ high → n < 10 ^ 19 → number_within low high (decimal n) ≡ Some n
unfolding number_within
number_again low high n ge le small =
    rw (numeral_value n (omega arith), number_test n small, is_within-Within low high n (ge, le)) refl

-- a word of digits doesn't begin with a byte below those of the digits
pub no_other : (word : Word) (byte : ℕ) → IsDigits word → byte < 48 → begins_with byte word ≡ false
no_other word byte h low = rw h.whole (ne_eqb h.first byte (omega (arith, h.low)))

-- constants and offsets

-- a constant
pub constant_again : (z : ℤ) → IsWord z → constant_of (signed_decimal z) ≡ Some z
unfolding constant_of
constant_again (pos n) fits =
    let small : n < 2 ^ 63 = omega (arith, ints) in
    rw (
      no_other (decimal n) 45 (decimal_digits n (omega arith)) (omega arith),
      number_again 0 (2 ^ 63 - 1) n (omega arith) (omega arith) (omega arith),
    ) refl
constant_again (negsuc n) fits =
    let small : n < 2 ^ 63 = omega (arith, ints) in
    rw (number_again 1 (2 ^ 63) (suc n) (omega arith) (omega arith) (omega arith))
    (ap (λ k. Some (negsuc k)) (let same : suc n - 1 ≡ n = omega arith in same))

-- an offset forward
pub forward_again : (n : ℕ) → n < 2 ^ 31 → forward_of (decimal n) ≡ Some (pos n)
unfolding forward_of
forward_again n small = rw (number_again 0 (2 ^ 31 - 1) n (omega arith) (omega arith) (omega arith)) refl

-- an offset back
pub backward_again : (n : ℕ) → n < 2 ^ 31 → backward_of (decimal (suc n)) ≡ Some (negsuc n)
unfolding backward_of
backward_again n small =
    rw (number_again 1 (2 ^ 31) (suc n) (omega arith) (omega arith) (omega arith))
    (ap (λ k. Some (negsuc k)) (let same : suc n - 1 ≡ n = omega arith in same))

-- operands

-- a register
pub register_again : (r : ℕ) → IsRegister r → register_of (register_word r) ≡ Some r
unfolding register_of
register_again r h = number_again 0 31 r (omega arith) (omega arith) (omega arith)

-- a slot
pub slot_again : (k : ℕ) → IsSlot k → slot_named (decimal k) ≡ Some k
unfolding slot_named
slot_again k h = number_again 0 7 k (omega arith) (omega arith) (omega arith)

late_bank : (b : ℕ) → b < 10 → eqb b 0 ≡ false → eqb b 1 ≡ false → 2 ≤ b
late_bank b h e f = grind (arith, nat_tests)

-- a bank
pub bank_again : (b : ℕ) → b < 10 → bank_named (bank_word b) ≡ Some b
unfolding bank_named
bank_again b h = on_test (eqb b 0)
    (λ (first : eqb b 0 ≡ true). rw first (ap (λ n. Some n) (sym (eqb-true _ _ first))))
    (λ (other : eqb b 0 ≡ false). on_test (eqb b 1)
    (λ (second : eqb b 1 ≡ true). rw (other, second) (ap (λ n. Some n) (sym (eqb-true _ _ second))))
    (λ (late : eqb b 1 ≡ false).
    rw (other, late) (number_again 2 9 b (late_bank b h other late) (omega arith) (omega arith))))

-- masks

hex_value : (d : ℕ) → d < 16 → digit_value (hex_digit d) ≡ d
hex_value d h = grind (arith, nat_tests)

hex_test : (d : ℕ) → d < 16 → is_hex (hex_digit d) ≡ true
hex_test d h = grind (arith, nat_tests)

hex_plain : (d : ℕ) → d < 16 → is_plain (hex_digit d) ≡ true
hex_plain d h = grind (arith, nat_tests)

pub record IsHex (k n : ℕ) : Type 0 where
  pub size : length (hex_word k n) ≡ k
  pub hex : list_all is_hex (hex_word k n) ≡ true
  pub plain : list_all is_plain (hex_word k n) ≡ true
  pub value : digits_value 16 (hex_word k n) ≡ n

-- hexadecimal digits
pub hex_again : (k n : ℕ) → n < 16 ^ k → IsHex k n
unfolding hex_word
hex_again zero n h = record { size = refl; hex = refl; plain = refl; value = omega arith }
hex_again (suc k) n h =
    let digit : n % 16 < 16 = omega arith in
    let power : 16 ^ suc k ≡ 16 ^ k * 16 = pow-suc 16 k in
    let rest = hex_again k (n / 16) (omega (arith, power)) in
    let pushed = digits_value_push 16 (hex_word k (n / 16)) (hex_digit (n % 16)) in
    record {
      size = omega (arith, length-append (hex_word k (n / 16)) (hex_digit (n % 16) ∷ []), rest.size);
      hex = list_all-push is_hex (hex_word k (n / 16)) (hex_digit (n % 16)) rest.hex (hex_test (n % 16) digit);
      plain = list_all-push is_plain (hex_word k (n / 16)) (hex_digit (n % 16)) rest.plain (hex_plain (n % 16) digit);
      value = omega (arith, pushed, rest.value, hex_value (n % 16) digit);
    }

-- a mask
pub mask_again : (m : ℕ) → m < 2 ^ 32 → mask_of (hex_word 8 m) ≡ Some m
unfolding mask_of
mask_again m small = let h = hex_again 8 m (omega arith) in rw (h.size, h.hex, h.value) refl

-- claims

no_dash : (word : Word) → IsDigits word → bytes_eq word (codes "-") ≡ false
no_dash word d = rw (d.whole, ne_eqb d.first 45 (omega (arith, d.low))) refl

-- a claim other than 255 names a bank
pub claim_below : (banks claim : ℕ) → eqb claim 255 ≡ false → (ltb claim banks || eqb claim 255) ≡ true → claim < banks
claim_below banks claim e h = grind (arith, nat_tests)

claim_again : (banks claim : ℕ)
    → banks ≤ 10 → IsTrue (is_slot_claim banks claim) → claim_of banks (claim_word claim) ≡ Some claim
unfolding claim_of
claim_again banks claim few h = by_test (eqb claim 255) refl where
  by_test : (b : Bool) → eqb claim 255 ≡ b → (cond (bytes_eq (cond b (codes "-") (decimal claim)) (codes "-"))
      (Some 255) (number_within 0 (banks - 1) (cond b (codes "-") (decimal claim)))) ≡ Some claim
  by_test true e = ap (λ n. Some n) (sym (eqb-true _ _ e))
  by_test false e =
      let lt = claim_below banks claim e h in
      rw (
        no_dash (decimal claim) (decimal_digits claim (omega arith)),
        number_again 0 (banks - 1) claim (omega arith) (omega arith) (omega arith),
      ) refl

-- the claims of a note
pub claims_again : (banks : ℕ) (slots : List ℕ) → banks ≤ 10 → All (λ claim. IsTrue (is_slot_claim banks claim)) slots
    → claims_of banks (map claim_word slots) ≡ Some slots
claims_again banks [] few h = refl
claims_again banks (s ∷ slots) few h =
    rw (
      claim_again banks s few (All-head (λ claim. IsTrue (is_slot_claim banks claim)) s slots h),
      claims_again banks slots few (All-tail (λ claim. IsTrue (is_slot_claim banks claim)) s slots h),
    ) refl
