-- Names: 1 to 32 bytes of ASCII letters, digits and '_', of which the first isn't a digit (this project's profile).
use Rattle.std.specs.Prelude.{ℕ, Bool, not, ◌&&◌, ◌||◌, ◌==◌, nat_le, List, length, slice_index}
use Rattle.std.specs.List.{list_all}
use Rattle.std.specs.Char.{is_ascii_digit, is_ascii_alphanumeric}

-- a letter, a digit or '_'
abbrev pub is_name_byte : ℕ → Bool
is_name_byte byte = is_ascii_alphanumeric byte || (byte == 95)

abbrev pub is_name : List ℕ → Bool
is_name bytes =
    nat_le 1 (length bytes)
    && (nat_le (length bytes) 32 && (not (is_ascii_digit (slice_index bytes 0)) && list_all is_name_byte bytes))
