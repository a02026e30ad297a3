-- The form of a word: a name, a bare `--`, a long option, or short flags.
use Rattle.std.proofs.Common.{◌≡◌, ◌≢◌, ◌⊎◌, inl, inr, ◌∙◌, refl, sym, ap, subst, ℕ, zero, suc, ◌==◌, ◌||◌, Bool, true, false, List, [], ◌∷◌, ◌++◌, length, Some, None, arith, true≢false}
use Rattle.std.specs.Prelude.{codes}
use Rattle.std.specs.List.{list_any}
use Rattle.std.specs.Str.{IsUtf8, bytes_eq, chars, encode_utf8_all as encodes}
use Rattle.std.specs.Char.{encode_utf8}
use Rattle.std.proofs.lemmas.Str.{chars-encodes}
use Rattle.std.proofs.lemmas.Bool.{cases_eq, ne_eqb}
use Rattle.clap.proofs.CutLemmas.{Lacks}
use Rattle.clap.proofs.LexerLemmas.{name_and_value-at, name_and_value-without}
use Rattle.clap.specs.Lexer.{long_of, short_of}
use Rattle.clap.specs.Walk.{Text}
use Rattle.command_words.specs.Prelude.{IsPlain}

-- ---- the text before `=`

Lacks-cons : (x : ℕ) (xs : Text) → x ≢ 61 → Lacks 61 xs → Lacks 61 (x ∷ xs)
Lacks-cons x xs other more zero lt = other
Lacks-cons x xs other more (suc i) lt = more i (omega (arith, lt))

pub lacks-test : (xs : Text) → list_any (λ x. x == 61) xs ≡ false → Lacks 61 xs
lacks-test [] none = λ i lt. absurd (omega (arith, lt))
lacks-test (x ∷ xs) none = by (cases_eq x 61) (lacks-test xs)
  where
    tail : (b : Bool) → (b || list_any (λ y. y == 61) xs) ≡ false → list_any (λ y. y == 61) xs ≡ false
    tail true e = absurd (true≢false e)
    tail false e = e

    by : (x ≡ 61) ⊎ (x ≢ 61) → (list_any (λ y. y == 61) xs ≡ false → Lacks 61 xs) → Lacks 61 (x ∷ xs)
    by (inl is) rest =
        absurd (true≢false (subst (λ (y : ℕ). ((y == 61) || list_any (λ z. z == 61) xs) ≡ false) is none))
    by (inr other) rest = Lacks-cons x xs other (rest (tail (x == 61) none))

-- a text is a name with a value after `=`, or has no `=`
pub data Cut (text : Text) : Type 0 where
  AtEquals : (name value : Text) → text ≡ name ++ 61 ∷ value → Lacks 61 name → Cut text
  Uncut : Lacks 61 text → Cut text

pub cut : (text : Text) → Cut text
cut [] = Uncut (lacks-test [] refl)
cut (x ∷ xs) = by (cases_eq x 61) (cut xs)
  where
    by : (x ≡ 61) ⊎ (x ≢ 61) → Cut xs → Cut (x ∷ xs)
    by (inl is) rest = AtEquals [] xs (ap (λ (y : ℕ). y ∷ xs) is) (lacks-test [] refl)
    by (inr other) (AtEquals name value is lacks) =
        AtEquals (x ∷ name) value (ap (λ (l : Text). x ∷ l) is) (Lacks-cons x name other lacks)
    by (inr other) (Uncut lacks) = Uncut (Lacks-cons x xs other lacks)

pub long-joined : (name value : Text) → Lacks 61 name
    → long_of (codes "--" ++ (name ++ (codes "=" ++ value))) ≡ Some (name, Some value)
long-joined [] value lacks = ap Some (name_and_value-at [] value lacks)
long-joined (x ∷ name) value lacks = ap Some (name_and_value-at (x ∷ name) value lacks)

pub long-alone : (x : ℕ) (xs : Text) → Lacks 61 (x ∷ xs)
    → long_of (codes "--" ++ (x ∷ xs)) ≡ Some (x ∷ xs, None)
long-alone x xs lacks = ap Some (name_and_value-without (x ∷ xs) lacks)

-- ---- kinds of words

pub data Looks : Text → Type 0 where
  Plain : (word : Text) → IsPlain word → Looks word
  Dashes : Looks (45 ∷ 45 ∷ [])
  Long : (x : ℕ) (xs : Text) → Looks (45 ∷ 45 ∷ x ∷ xs)
  Short : (x : ℕ) (xs : Text) → x ≢ 45 → Looks (45 ∷ x ∷ xs)

pub looks : (word : Text) → Looks word
looks [] = Plain [] tt
looks (c ∷ []) = Plain (c ∷ []) tt
looks (c ∷ d ∷ more) = by (cases_eq c 45) (cases_eq d 45)
  where
    dashed : (more : Text) → Looks (45 ∷ 45 ∷ more)
    dashed [] = Dashes
    dashed (x ∷ xs) = Long x xs

    by : (c ≡ 45) ⊎ (c ≢ 45) → (d ≡ 45) ⊎ (d ≢ 45) → Looks (c ∷ d ∷ more)
    by (inr other) second = Plain (c ∷ d ∷ more) other
    by (inl is) (inr other) = subst (λ (x : ℕ). Looks (x ∷ d ∷ more)) (sym is) (Short d more other)
    by (inl is) (inl too) =
        subst (λ (x : ℕ). Looks (x ∷ d ∷ more)) (sym is)
        (subst (λ (x : ℕ). Looks (45 ∷ x ∷ more)) (sym too) (dashed more))

-- ---- short flags

pub record ShortWord (word : Text) (first : ℕ) (flags : Text) : Type 0 where
  pub dashes : bytes_eq word (45 ∷ 45 ∷ []) ≡ false
  pub long : long_of word ≡ None
  pub short : short_of word ≡ Some (first ∷ flags)

pub short-word : (x : ℕ) (xs : Text) → x ≢ 45 → ShortWord (45 ∷ x ∷ xs) x xs
short-word x xs other =
    let no = ne_eqb x 45 other in record { dashes = rw no refl; long = rw no refl; short = rw no refl }

dash : encodes (45 ∷ []) ≡ 45 ∷ []
unfolding encode_utf8
dash = refl

behind-dash : (x : ℕ) (xs : Text) → chars (45 ∷ x ∷ xs) ≡ 45 ∷ chars (x ∷ xs)
unfolding chars
behind-dash x xs = refl

-- the flags have a first character
pub first-flag : (x : ℕ) (xs : Text) → IsUtf8 (45 ∷ x ∷ xs)
    → (c : ℕ) × (cs : List ℕ) × (chars (x ∷ xs) ≡ c ∷ cs)
first-flag x xs text = by (chars (x ∷ xs)) refl
  where
    same : text.0 ≡ 45 ∷ chars (x ∷ xs)
    same = sym (chars-encodes text.0 text.1.0) ∙ ap chars text.1.1 ∙ behind-dash x xs

    by : (found : List ℕ) → chars (x ∷ xs) ≡ found → (c : ℕ) × (cs : List ℕ) × (chars (x ∷ xs) ≡ c ∷ cs)
    by [] none = absurd (alone (ap encodes (same ∙ ap (λ (l : List ℕ). 45 ∷ l) none)))
      where
        alone : encodes text.0 ≡ encodes (45 ∷ []) → ⊥
        alone e = let one : length (45 ∷ x ∷ xs) ≡ 1 = ap length (sym text.1.1 ∙ e ∙ dash) in omega (arith, one)
    by (c ∷ cs) is = (c, cs, is)
