-- From the words to the work that they ask for.
use Rattle.std.proofs.Common.{◌≡◌, ◌≢◌, inl, inr, ℕ, ◌<◌, ◌≤◌, ◌^◌, Bool, true, false, ◌&&◌, cond, List, [], ◌∷◌, drop, Option, Some, None, refl, sym, ap, ◌∙◌, subst, arith, nat_le, ◌==◌}
use Rattle.std.specs.Prelude.{option_and_then}
use Rattle.std.specs.Str.Parse.{IsNumeral, without_leading_plus, digits_value}
use Rattle.std.specs.Char.{is_ascii_digit}
use Rattle.std.proofs.lemmas.Bool.{leb-true, ne_eqb}
use Rattle.gr_base.specs.Prelude.{are_digits}
use Rattle.gr_base.proofs.Digits.{AllDigits-test}
use Rattle.clap.proofs.WalkLemmas.{both}
use Rattle.clap.specs.Words.{App, HasKind, Kinds, Row, Text, found_of, kind_of, matches_of, rows_of}
use Rattle.clap.specs.declared.error.Error.{Error}
use Rattle.clap.specs.declared.parser.matches.ArgMatches.{ArgMatches}
use Rattle.command_words.specs.declared.verbs.Verb.{Verb}
use Rattle.command_words.specs.Prelude.{IsFound, asked_by, none_wrong, is_option_number, option_within, command_of, Works, asked_for, asks_of, row_of}
use Rattle.clap.specs.declared.error.kind.ErrorKind.TheVariants as kind

-- an error that isn't running out of memory says that something is wrong
pub refused-wrong : (kinds : Kinds) (error : Error)
    → HasKind kinds error → kind_of error ≢ kind.OutOfMemory → none_wrong kinds ≡ false
refused-wrong [] error has other = absurd (elim has [ inl memory ↦ other memory | inr among ↦ among ])
refused-wrong (k ∷ kinds) error has other = refl

-- what is asked for is what is asked by what was found
pub asked-found : {W : Type 0} (app : App) (asks : List Row → Option W) (words : List Text) (found : Option ArgMatches)
    → IsFound app words found → option_and_then (λ m. asks (rows_of (found_of m))) found ≡ asked_by app asks words
unfolding asked_by
asked-found app asks words None is = ap (λ b. cond b (asks (matches_of app words)) None) (sym is)
asked-found app asks words (Some m) is =
    ap asks is.1 ∙ ap (λ b. cond b (asks (matches_of app words)) None) (sym is.0)

-- and so it is for the words of a verb
pub verb-found : {W : Type 0} (works : Works W) (verb : Verb) (words : List Text) (found : Option ArgMatches)
    → IsFound (command_of (row_of verb)) words found
    → option_and_then (λ m. asks_of works verb (rows_of (found_of m))) found ≡ asked_for works verb words
unfolding asked_for
verb-found works verb words found is = asked-found (command_of (row_of verb)) (asks_of works verb) words found is

-- ---- numbers

no-plus : (c : ℕ) (cs : List ℕ) → is_ascii_digit c ≡ true → without_leading_plus (c ∷ cs) ≡ c ∷ cs
no-plus c cs e =
    let low = leb-true 48 c (both (nat_le 48 c) _ e).0 in
    ap (λ b. drop (cond b 1 0) (c ∷ cs)) (other c low)
  where
    other : (c : ℕ) → 48 ≤ c → (c == 43) ≡ false
    other c low = ne_eqb c 43 (λ is. omega (arith, is, low))

gone : (a b d : Bool) (n : ℕ) → d ≡ false → ◌≡◌ {A = Option ℕ} None (cond (a && (b && d)) (Some n) None)
gone true true d n e = ap (λ t. cond t (Some n) None) (sym e)
gone true false d n e = refl
gone false b d n e = refl

-- digits that `parse` doesn't read as a number of this many bits aren't a number in the range
pub number-none : (least most bits : ℕ) → most < 2 ^ bits → (text : List ℕ) → are_digits text ≡ true
    → (IsNumeral 10 (without_leading_plus text) × (digits_value 10 (without_leading_plus text) < 2 ^ bits) → ⊥)
    → ◌≡◌ {A = Option ℕ} None (option_within least most text)
number-none least most bits wide [] digits unread = refl
number-none least most bits wide (c ∷ cs) digits unread = go (nat_le (digits_value 10 (c ∷ cs)) most) refl
  where
    go : (b : Bool)
        → nat_le (digits_value 10 (c ∷ cs)) most ≡ b → ◌≡◌ {A = Option ℕ} None (option_within least most (c ∷ cs))
    go true is =
        let plain = no-plus c cs (both (is_ascii_digit c) _ digits).0 in
        absurd (unread (subst (λ t. IsNumeral 10 t × (digits_value 10 t < 2 ^ bits)) (sym plain)
        ((omega arith, AllDigits-test (c ∷ cs) digits), omega (arith, leb-true _ _ is, wide))))
    go false is =
        gone (is_option_number (c ∷ cs)) (nat_le least (digits_value 10 (c ∷ cs)))
        (nat_le (digits_value 10 (c ∷ cs)) most)
        (digits_value 10 (c ∷ cs)) is
