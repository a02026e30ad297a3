-- How a name of an input file is printed: as JSON text (RFC 8259) in which no character acts on a terminal or can't be
-- seen. Control characters, and those of Unicode that are bidirectional controls, line separators or ignorable by
-- default (ECMA-48; Unicode Standard Annex 9 and Annex 44), are JSON escapes.
use Rattle.std.specs.Prelude.{ℕ, ◌+◌, ◌-◌, ◌/◌, ◌%◌, Bool, ◌&&◌, nat_le, if◌then◌else◌, List, [], ◌∷◌, ◌++◌, codes, flat_map}
use Rattle.std.specs.List.{list_any}
use Rattle.std.specs.Char.{digit_char, encode_utf8}
use Rattle.std.specs.Str.{chars}
use Rattle.json.specs.Print.{quoted}

-- the first and the last of each range of hidden characters
abbrev pub hidden_ranges : List (ℕ × ℕ)
hidden_ranges =
    (0, 31) ∷ (127, 159) ∷ (173, 173) ∷ (847, 847) ∷ (1564, 1564) ∷ (4447, 4448) ∷ (6068, 6069) ∷ (6155, 6159)
    ∷ (8203, 8207) ∷ (8232, 8238) ∷ (8288, 8303) ∷ (12644, 12644) ∷ (65024, 65039) ∷ (65279, 65279)
    ∷ (65440, 65440) ∷ (65520, 65531) ∷ (113824, 113827) ∷ (119155, 119162) ∷ (917504, 921599) ∷ []

abbrev pub is_hidden : ℕ → Bool
is_hidden c = list_any (λ range. nat_le range.0 c && nat_le c range.1) hidden_ranges

-- `\u` and the four hexadecimal digits of a unit of UTF-16
abbrev pub escaped_unit : ℕ → List ℕ
escaped_unit unit =
    codes "\\u"
    ++ (digit_char (unit / 4096) ∷ digit_char (unit / 256 % 16) ∷ digit_char (unit / 16 % 16)
    ∷ digit_char (unit % 16) ∷ [])

-- a character above U+FFFF is two units
abbrev pub escaped_char : ℕ → List ℕ
escaped_char c =
    if nat_le c 65535 then escaped_unit c
    else escaped_unit (55296 + (c - 65536) / 1024) ++ escaped_unit (56320 + (c - 65536) % 1024)

abbrev pub shown_char : ℕ → List ℕ
shown_char c = if is_hidden c then escaped_char c else encode_utf8 c

abbrev pub without_hidden : List ℕ → List ℕ
without_hidden text = flat_map shown_char (chars text)

-- a name as JSON text
abbrev pub name_text : List ℕ → List ℕ
name_text name = without_hidden (quoted name)
