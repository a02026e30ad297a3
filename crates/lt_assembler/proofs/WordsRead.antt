-- A word encodes what is read from it.
use Rattle.std.proofs.Common.{◌≡◌, ℕ, zero, suc, ◌+◌, ◌*◌, ◌/◌, ◌%◌, ◌^◌, ◌<◌, ◌≤◌, true, false, eqb, List, [], ◌∷◌, ◌++◌, length, get_or, take, Some, None, refl, sym, ap, subst, ◌∙◌, arith}
use Rattle.std.specs.Prelude.{◌&&◌, bytes_eq, codes, decimal}
use Rattle.std.specs.List.{list_all}
use Rattle.std.specs.Char.{digit_value}
use Rattle.std.specs.Str.Parse.{digits_value}
use Rattle.std.proofs.lemmas.Bool.{and_parts, eqb-true}
use Rattle.std.proofs.lemmas.Bool.Decides.{nat_tests}
use Rattle.std.proofs.lemmas.Option.{cond_some}
use Rattle.std.proofs.lemmas.List.{take_more, take_all}
use Rattle.std.proofs.lemmas.Int.Digits.{digits_value_more}
use Rattle.lt_isa.specs.Prelude.{IsRegister, IsSlot}
use Rattle.lt_assembler.specs.Prelude.{Word, register_word, bank_word, hex_digit, hex_word, begins_with, but_first, number_within, register_of, slot_named, bank_named, is_hex, mask_of}
use Rattle.lt_assembler.proofs.Digits.{mask_fits, hex_digit_value}
use Rattle.lt_assembler.proofs.Found.{number_from, first_byte, by_answer}
use Rattle.gr_base.proofs.ListTests.{list_all-get_or}
use Rattle.gr_base.proofs.Results.{some_is}
use Rattle.lt_assembler.proofs.NamedWords.{same_word}

-- a word writes a register
abbrev pub IsRegisterWord : Word → ℕ → Type 0
IsRegisterWord word r = IsRegister r × (word ≡ register_word r)

-- the register that a word writes
pub register_from : (word : Word) (r : ℕ) → register_of word ≡ Some r → IsRegisterWord word r
unfolding register_of
register_from word r e =
    by_answer (begins_with 114 word) (number_within 0 31 (but_first word)) None (IsRegisterWord word)
    (λ first z h.
    let w = number_from 0 31 (but_first word) z h in
    (omega (arith, w.1), first_byte 114 word (omega arith) first ∙ ap (λ (t : Word). 114 ∷ t) w.2))
    (λ _ z h. absurd cc) r e

-- a word writes a slot
abbrev pub IsSlotWord : Word → ℕ → Type 0
IsSlotWord word k = IsSlot k × (word ≡ decimal k)

-- the slot that a word writes
pub slot_from : (word : Word) (k : ℕ) → slot_named word ≡ Some k → IsSlotWord word k
unfolding slot_named
slot_from word k e = let w = number_from 0 7 word k e in (omega (arith, w.1), w.2)

late : (b : ℕ) → 2 ≤ b → (eqb b 0 ≡ false) × (eqb b 1 ≡ false)
late b h = (grind (arith, nat_tests), grind (arith, nat_tests))

late_word : (b : ℕ) → 2 ≤ b → bank_word b ≡ 79 ∷ decimal b
late_word b h = let l = late b h in rw (l.0, l.1) refl

-- a word writes a bank
abbrev pub IsBankWord : Word → ℕ → Type 0
IsBankWord word b = (b < 10) × (word ≡ bank_word b)

-- the bank that a word writes
pub bank_from : (word : Word) (b : ℕ) → bank_named word ≡ Some b → IsBankWord word b
unfolding bank_named
bank_from word b e =
    by_answer (bytes_eq word (codes "D")) _ _ (IsBankWord word)
    (λ same z h. subst (IsBankWord word) (some_is 0 z h) (omega arith, same_word _ _ same))
    (λ _. by_answer (bytes_eq word (codes "E")) _ _ (IsBankWord word)
    (λ same z h. subst (IsBankWord word) (some_is 1 z h) (omega arith, same_word _ _ same))
    (λ _. by_answer (begins_with 79 word) _ _ (IsBankWord word)
    (λ first z h.
    let w = number_from 2 9 (but_first word) z h in (
      omega (arith, w.1),
      first_byte 79 word (omega arith) first ∙ ap (λ (t : Word). 79 ∷ t) w.2 ∙ sym (late_word z w.0),
    ))
    (λ _ z h. absurd cc))) b e

-- masks

digit_back : (c : ℕ) → is_hex c ≡ true → hex_digit (digit_value c) ≡ c
digit_back c e = grind (arith, nat_tests)

divided : (n q r : ℕ) → n ≡ q * 16 + r → r < 16 → (n / 16 ≡ q) × (n % 16 ≡ r)
divided n q r e lt = (omega arith, omega arith)

hex_back : (ds : List ℕ)
    → list_all is_hex ds ≡ true → (i : ℕ) → i ≤ length ds → hex_word i (digits_value 16 (take i ds)) ≡ take i ds
unfolding hex_word
hex_back ds all zero le = refl
hex_back ds all (suc i) le =
    let within : i < length ds = omega arith in
    let next = list_all-get_or is_hex ds i 0 all within in
    let step : suc i ≡ i + 1 = omega arith in
    let value : digits_value 16 (take (suc i) ds) ≡ digits_value 16 (take i ds) * 16 + digit_value (get_or ds i 0) =
    ap (λ k. digits_value 16 (take k ds)) step ∙ digits_value_more 16 ds i within in
    let parts = divided _ _ _ value (hex_digit_value (get_or ds i 0) next) in
    let front : hex_word i (digits_value 16 (take (suc i) ds) / 16) ≡ take i ds =
    ap (hex_word i) parts.0 ∙ hex_back ds all i (omega arith) in
    let last : hex_digit (digits_value 16 (take (suc i) ds) % 16) ≡ get_or ds i 0 =
    ap hex_digit parts.1 ∙ digit_back (get_or ds i 0) next in
    ap (λ (t : List ℕ). t ++ hex_digit (digits_value 16 (take (suc i) ds) % 16) ∷ []) front
    ∙ ap (λ (c : ℕ). take i ds ++ c ∷ []) last
    ∙ sym (take_more ds i 0 within) ∙ ap (λ k. take k ds) (sym step)

-- the mask that a word writes
pub mask_from : (word : Word) (m : ℕ) → mask_of word ≡ Some m → (m < 2 ^ 32) × (word ≡ hex_word 8 m)
unfolding mask_of
mask_from word m e =
    let found = cond_some (eqb (length word) 8 && list_all is_hex word) (digits_value 16 word) m e in
    let p = and_parts _ _ found.0 in
    let size : length word ≡ 8 = eqb-true _ _ p.0 in
    let whole : take 8 word ≡ word = take_all 8 word (omega (arith, size)) in
    let back : hex_word 8 (digits_value 16 word) ≡ word =
    ap (λ (ds : List ℕ). hex_word 8 (digits_value 16 ds)) (sym whole) ∙ hex_back word p.1 8 (omega arith) ∙ whole in
    (subst (λ n. n < 2 ^ 32) found.1 (mask_fits word size p.1), sym back ∙ ap (hex_word 8) found.1)
