-- For the proofs and for private clauses only: one word for a number that may not be known. (This project's profile.)
use Rattle.std.specs.Prelude.{◌≡◌, ℕ, ◌^◌, ◌-◌, ◌==◌, Bool, true, false, if◌then◌else◌, Option, Some, None}
use Rattle.std.proofs.Common.{refl, sym}
use Rattle.std.proofs.lemmas.Bool.{eqb-true}

-- the greatest word represents no number
abbrev pub number_in_word : ℕ → Option ℕ
number_in_word word = if word == 2 ^ 32 - 1 then None else Some word

abbrev pub word_with : Option ℕ → ℕ
word_with None = 2 ^ 32 - 1
word_with (Some number) = number

-- a word is determined by what it represents
pub word-back : (word : ℕ) → word_with (number_in_word word) ≡ word
word-back word = by (word == 2 ^ 32 - 1) (λ e. eqb-true word (2 ^ 32 - 1) e)
  where
    by : (b : Bool) → (b ≡ true → word ≡ 2 ^ 32 - 1) → word_with (if b then None else Some word) ≡ word
    by true same = sym (same refl)
    by false same = refl
