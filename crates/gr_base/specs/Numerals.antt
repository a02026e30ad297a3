-- Decimal numerals: which texts are digits, and the one canonical way to write a number. The value of digits is std's
-- `digits_value 10`. (This project's profile.)
use Rattle.std.specs.Prelude.{◌≡◌, ◌↔◌, ℕ, ◌^◌, ◌<◌, nat_le, Bool, true, not, ◌&&◌, ◌||◌, ◌==◌, List, length, slice_index, decimal}
use Rattle.std.specs.List.{list_all}
use Rattle.std.specs.Char.{is_ascii_digit}
use Rattle.std.specs.Str.Parse.{digits_value}

-- all bytes are decimal digits
abbrev pub are_digits : List ℕ → Bool
are_digits text = list_all is_ascii_digit text

-- a canonical numeral: one or more decimal digits, of which the first is 0 only in the numeral of 0
unfoldable pub is_canonical_numeral : List ℕ → Bool
is_canonical_numeral text =
    nat_le 1 (length text) && (are_digits text && ((length text == 1) || not (slice_index text 0 == 48)))

-- the text is the canonical numeral of a number
abbrev pub IsNumeralOf : ℕ → List ℕ → Type 0
IsNumeralOf n text = (is_canonical_numeral text ≡ true) × (digits_value 10 text ≡ n)

-- a number has one canonical numeral, its decimal text
abbrev pub OneNumeral : Type 0
OneNumeral = (n : ℕ) (text : List ℕ) → n < 2 ^ 64 → IsNumeralOf n text ↔ (text ≡ decimal n)
