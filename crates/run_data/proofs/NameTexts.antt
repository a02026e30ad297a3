-- A name is ASCII text, and has no byte that JSON escapes.
use Rattle.std.proofs.Common.{◌≡◌, ◌≢◌, ℕ, ◌<◌, Bool, true, false, ◌&&◌, not, length, List, [], ◌∷◌, refl, ap, arith, IsTrue}
use Rattle.std.specs.Prelude.{nat_le, slice_index}
use Rattle.std.specs.Char.{is_ascii_digit}
use Rattle.std.specs.List.{list_all, flat_map}
use Rattle.std.specs.Str.{IsUtf8, IsAscii}
use Rattle.std.proofs.lemmas.Bool.Decides.{nat_tests}
use Rattle.std.proofs.lemmas.Str.{IsUtf8-from_ascii}
use Rattle.std.proofs.lemmas.Str.Ascii.{IsAscii-nil, IsAscii-cons}
use Rattle.json.specs.Print.{escape_byte}
use Rattle.gr_word.specs.Prelude.{is_name, is_name_byte}

-- a byte of a name is itself in a JSON text
record Plain (byte : ℕ) : Type 0 where
  above : 47 < byte
  other : byte ≢ 92
  below : byte < 128

Plain-from : (byte : ℕ) → is_name_byte byte ≡ true → Plain byte
Plain-from byte is =
    record { above = grind (arith, nat_tests); other = grind (arith, nat_tests); below = grind (arith, nat_tests) }

escape-plain : (byte : ℕ) → Plain byte → escape_byte byte ≡ byte ∷ []
unfolding escape_byte
escape-plain byte plain = grind (arith, nat_tests)

-- both of two tests hold
pub and_first : (a b : Bool) → (a && b) ≡ true → (a ≡ true) × (b ≡ true)
and_first true b is = (refl, is)
and_first false b is = absurd (let f : ◌≡◌ {A = Bool} false true = is in cc)

ascii : (name : List ℕ) → list_all is_name_byte name ≡ true → IsAscii name
ascii [] all = IsAscii-nil
ascii (byte ∷ name) all =
    let both = and_first (is_name_byte byte) (list_all is_name_byte name) all in
    IsAscii-cons byte name (Plain-from byte both.0).below (ascii name both.1)

unescaped : (name : List ℕ) → list_all is_name_byte name ≡ true → flat_map escape_byte name ≡ name
unescaped [] all = refl
unescaped (byte ∷ name) all =
    let both = and_first (is_name_byte byte) (list_all is_name_byte name) all in
    rw (escape-plain byte (Plain-from byte both.0)) (ap (λ more. byte ∷ more) (unescaped name both.1))

last_of_four : (a b c d : Bool) → (a && (b && (c && d))) ≡ true → d ≡ true
last_of_four a b c d is = (and_first c d (and_first b (c && d) (and_first a (b && (c && d)) is).1).1).1

bytes_of_name : (name : List ℕ) → IsTrue (is_name name) → list_all is_name_byte name ≡ true
bytes_of_name name is =
    last_of_four (nat_le 1 (length name)) (nat_le (length name) 32) (not (is_ascii_digit (slice_index name 0)))
    (list_all is_name_byte name) is

-- a name is UTF-8
pub IsUtf8-name : (name : List ℕ) → IsTrue (is_name name) → IsUtf8 name
IsUtf8-name name is = IsUtf8-from_ascii name (ascii name (bytes_of_name name is))

-- a name needs no escape
pub escape-name : (name : List ℕ) → IsTrue (is_name name) → flat_map escape_byte name ≡ name
escape-name name is = unescaped name (bytes_of_name name is)
