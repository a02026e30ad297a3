-- How a name from outside is printed in a text for people. (This project's profile.)
use Rattle.std.specs.Prelude.{ℕ, zero, suc, ◌-◌, ◌/◌, ◌%◌, ◌&&◌, nat_le, ◌==◌, if◌then◌else◌, List, [], ◌∷◌, ◌++◌, codes, flat_map}
use Rattle.std.specs.Char.{digit_char}
use Rattle.std.specs.Str.{chars}

-- the last hexadecimal digits of a number, at most `most` of them: no zeros before the others, but for `least` digits
abbrev pub hex_digits : ℕ → ℕ → ℕ → List ℕ
hex_digits zero least number = []
hex_digits (suc most) least number =
    if (least == 0) && (number == 0) then []
    else hex_digits most (least - 1) (number / 16) ++ digit_char (number % 16) ∷ []

-- Printable ASCII is itself, and a backslash is doubled; any other character is its number, as `\x1b` or `\u{202e}`.
abbrev pub escaped_char : ℕ → List ℕ
escaped_char c =
    if c == 92 then codes "\\\\"
    else if nat_le 32 c && nat_le c 126 then c ∷ []
    else if nat_le c 127 then codes "\\x" ++ hex_digits 8 2 c
    else codes "\\u{" ++ hex_digits 8 1 c ++ codes "}"

abbrev pub escaped_name : List ℕ → List ℕ
escaped_name name = flat_map escaped_char (chars name)
