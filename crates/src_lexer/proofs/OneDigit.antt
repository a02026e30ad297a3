-- A run of one digit is that digit's number.
use Rattle.std.proofs.Common.{◌≡◌, ℕ, ◌-◌, ◌^◌, true, false, List, [], ◌∷◌, length, pos, take, refl, ap, ◌∙◌, arith}
use Rattle.std.specs.Prelude.{◌==◌, nat_lt, if◌then◌else◌, slice_index}
use Rattle.std.specs.List.{prefix_len}
use Rattle.std.specs.Char.{is_ascii_digit}
use Rattle.std.specs.Str.Parse.{digits_value}
use Rattle.std.proofs.lemmas.Bool.Decides.{nat_tests}
use Rattle.src_lexer.specs.Prelude.{LetterRun, Is, Big, Mixed, number_run}
use Rattle.src_lexer.specs.declared.tokens.Kind.TheVariants as kind

-- a number, from the count of its digits, the length of the run and the value
abbrev number_by : ℕ → ℕ → ℕ → LetterRun
number_by count size value =
    if nat_lt (2 ^ 63 - 1) value then Big else (if count == size then Is (kind.Num (pos value)) else Mixed count)

number_run_by : (run : List ℕ)
    → number_run run ≡ number_by (prefix_len is_ascii_digit run) (length run)
    (digits_value 10 (take (prefix_len is_ascii_digit run) run))
unfolding number_run
number_run_by run = refl

one_long : (d : ℕ) → is_ascii_digit d ≡ true → prefix_len is_ascii_digit (d ∷ []) ≡ 1
one_long d h = rw h refl

value_of_one : (d : ℕ) → is_ascii_digit d ≡ true → digits_value 10 (d ∷ []) ≡ d - 48
value_of_one d h = grind (arith, nat_tests)

small : (d : ℕ) → is_ascii_digit d ≡ true → number_by 1 1 (d - 48) ≡ Is (kind.Num (pos (d - 48)))
small d h = let few : nat_lt (2 ^ 63 - 1) (d - 48) ≡ false = grind (arith, nat_tests) in rw few refl

one_digit : (d : ℕ) → is_ascii_digit d ≡ true → number_run (d ∷ []) ≡ Is (kind.Num (pos (d - 48)))
one_digit d h =
    number_run_by (d ∷ [])
    ∙ (ap (λ n. number_by n 1 (digits_value 10 (take n (d ∷ [])))) (one_long d h)
    ∙ (ap (number_by 1 1) (value_of_one d h) ∙ small d h))

-- a run of one digit
pub one_digit_run : (run : List ℕ) → length run ≡ 1 → is_ascii_digit (slice_index run 0) ≡ true
    → number_run run ≡ Is (kind.Num (pos (slice_index run 0 - 48)))
one_digit_run [] size h = absurd (omega arith)
one_digit_run (d ∷ []) size h = one_digit d h
one_digit_run (d ∷ e ∷ run) size h = absurd (omega arith)
