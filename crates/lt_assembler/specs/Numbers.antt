-- For the proofs and for private clauses only, except `begins_with`: numbers as words, for the computing form. (This
-- project's profile.)
use Rattle.std.specs.Prelude.{ℕ, ◌-◌, ◌^◌, nat_le, Bool, ◌&&◌, ◌==◌, if◌then◌else◌, ℤ, pos, negsuc, length, drop, Option, Some, None, option_map, slice_index}
use Rattle.std.specs.Str.Parse.{digits_value}
use Rattle.gr_base.specs.Lists.{is_within}
use Rattle.gr_base.specs.Numerals.{is_canonical_numeral}
use Rattle.lt_assembler.specs.Words.{Word}

-- whether a word begins with this byte, which isn't 0
abbrev pub begins_with : ℕ → Word → Bool
begins_with byte word = slice_index word 0 == byte

-- A canonical numeral of at most 19 digits. Longer numbers aren't in any range.
unfoldable pub is_number : Word → Bool
is_number word = nat_le (length word) 19 && is_canonical_numeral word

-- the number that a word writes, if it is from low to high
unfoldable pub number_within : ℕ → ℕ → Word → Option ℕ
number_within low high word =
    if is_number word && is_within low high (digits_value 10 word) then Some (digits_value 10 word) else None

-- the negative of a number that isn't 0
abbrev pub negative : ℕ → ℤ
negative n = negsuc (n - 1)

-- a word without its first byte
abbrev pub but_first : Word → Word
but_first word = drop 1 word

-- A constant may begin with '-'; '-0' isn't a number.
unfoldable pub constant_of : Word → Option ℤ
constant_of word =
    if begins_with 45 word then option_map negative (number_within 1 (2 ^ 63) (but_first word))
    else option_map pos (number_within 0 (2 ^ 63 - 1) word)

-- an offset after its sign
unfoldable pub forward_of : Word → Option ℤ
forward_of word = option_map pos (number_within 0 (2 ^ 31 - 1) word)

unfoldable pub backward_of : Word → Option ℤ
backward_of word = option_map negative (number_within 1 (2 ^ 31) word)
