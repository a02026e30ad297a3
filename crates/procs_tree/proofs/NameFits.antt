-- The names of new variables are names.
use Rattle.std.proofs.Common.{◌≡◌, ℕ, ◌<◌, ◌^◌, Bool, true, false, List, [], ◌∷◌, length, refl, arith}
use Rattle.std.specs.Prelude.{◌||◌, ◌==◌, decimal}
use Rattle.std.specs.List.{list_all}
use Rattle.std.specs.Char.{is_ascii_digit}
use Rattle.std.specs.Int.{is_in_range}
use Rattle.std.proofs.lemmas.Bool.{and_from, and_parts, le-leb}
use Rattle.std.proofs.lemmas.Fmt.{length-decimal-le}
use Rattle.gr_base.proofs.Digits.{decimal_digits}
use Rattle.gr_word.specs.Prelude.{is_name, is_name_byte}
use Rattle.procs_tree.specs.Prelude.{new_name}

either : (a b c d : Bool) → a ≡ true → (((a || b) || c) || d) ≡ true
either true b c d e = refl
either false b c d e = absurd (cc)

digits_are_bytes : (text : List ℕ) → list_all is_ascii_digit text ≡ true → list_all is_name_byte text ≡ true
digits_are_bytes [] e = refl
digits_are_bytes (b ∷ text) e =
    let p = and_parts (is_ascii_digit b) (list_all is_ascii_digit text) e in
    and_from (is_name_byte b) (list_all is_name_byte text) (either (is_ascii_digit b) (is_in_range 65 90 b) (is_in_range 97 122 b) (b == 95) p.0)
    (digits_are_bytes text p.1)

pub new_name_fits : (n : ℕ) → n < 2 ^ 64 → is_name (new_name n) ≡ true
new_name_fits n small =
    let long = length-decimal-le 20 n (omega arith) (omega (arith, small)) small in
    and_from _ _ (le-leb 1 (length (new_name n)) (omega arith))
    (and_from _ _ (le-leb (length (new_name n)) 32 (omega (arith, long)))
    (digits_are_bytes (decimal n) (decimal_digits n small)))
