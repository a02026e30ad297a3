-- A text splits in one way.
use Rattle.std.proofs.Common.{◌≡◌, ◌⊎◌, inl, inr, ℕ, zero, suc, ◌+◌, ◌≤◌, Bool, true, false, List, [], ◌∷◌, ◌++◌, length, length-append, take, drop, refl, sym, ap, ◌∙◌, subst, arith, Ok, Err}
use Rattle.std.specs.Prelude.{slice_index, ◌||◌, ◌==◌, if◌then◌else◌}
use Rattle.std.specs.List.{prefix_len, take_while}
use Rattle.std.proofs.Math.Seq.{take-append_seam, drop-append_seam}
use Rattle.std.proofs.lemmas.Bool.Decides.{nat_tests}
use Rattle.gr_base.proofs.ListTests.{list_all-get_or}
use Rattle.gr_word.specs.Prelude.{is_name_byte}
use Rattle.src_lexer.specs.declared.tokens.Token.{Token}
use Rattle.src_lexer.specs.Prelude.{is_white, is_in_line, letter_run_of, Slashes, pair_of, Lexed, with_token, token_at, IsLongest, StartsSign, Splits, Ends, Blank, Comment, Word, Double, Single, TooBig, TooLong, Behind, Bad, Found, Skipped, Piece, Faulty, run_found, single_found, sign_found, found_in}
use Rattle.src_lexer.proofs.Longest.{longest_prefix}
use Rattle.src_lexer.specs.declared.errors.LexFault.TheVariants as error

-- the result for a text, from its first piece and the result for the rest
abbrev next : ℕ → Found → (ℕ → Lexed) → Lexed
next at (Skipped n) rest = rest n
next at (Piece k n) rest = with_token (token_at k at n) (rest n)
next at (Faulty e) rest = Err e

abbrev lexed : ℕ → ℕ → List ℕ → Lexed
lexed fuel at [] = Ok []
lexed zero at (b ∷ rest) = Ok []
lexed (suc fuel) at (b ∷ rest) = next at (found_in at (b ∷ rest)) (λ n. lexed fuel (at + n) (drop n (b ∷ rest)))

equal_true : (a b : ℕ) → (a == b) ≡ true → a ≡ b
equal_true a b e = grind (arith, nat_tests)

or_cases : (a b : Bool) → (a || b) ≡ true → (a ≡ true) ⊎ (b ≡ true)
or_cases true b e = inl refl
or_cases false b e = inr e

white_or : (b : ℕ) → is_white b ≡ true → is_name_byte b ≡ false
white_or b e =
    elim (or_cases _ _ e) [
      | inl h ↦ subst (λ z. is_name_byte z ≡ false) (sym (equal_true b 32 h)) refl
      | inr h ↦ elim (or_cases _ _ h) [
        | inl h ↦ subst (λ z. is_name_byte z ≡ false) (sym (equal_true b 9 h)) refl
        | inr h ↦ elim (or_cases _ _ h) [
          | inl h ↦ subst (λ z. is_name_byte z ≡ false) (sym (equal_true b 10 h)) refl
          | inr h ↦ subst (λ z. is_name_byte z ≡ false) (sym (equal_true b 13 h)) refl
        ]
      ]
    ]

not_white : (b : ℕ) (white : Bool) → is_white b ≡ white → is_name_byte b ≡ true → white ≡ false
not_white b true w n = let f = white_or b w in absurd (cc)
not_white b false w n = refl

abbrev chosen : ℕ → ℕ → List ℕ → Bool → Bool → Found
chosen at b rest white name =
    if white then Skipped 1
    else (if name then run_found at (prefix_len is_name_byte (b ∷ rest))
    (letter_run_of (take_while is_name_byte (b ∷ rest)))
    else sign_found at b rest (pair_of b (slice_index rest 0)))

chosen_white : (at b : ℕ) (rest : List ℕ) (white name : Bool) → white ≡ true → chosen at b rest white name ≡ Skipped 1
chosen_white at b rest true name w = refl
chosen_white at b rest false name w = absurd (cc)

chosen_run : (at b : ℕ) (rest : List ℕ) (white name : Bool) → white ≡ false → name ≡ true
    → chosen at b rest white name
    ≡ run_found at (prefix_len is_name_byte (b ∷ rest)) (letter_run_of (take_while is_name_byte (b ∷ rest)))
chosen_run at b rest true name w n = absurd (cc)
chosen_run at b rest false true w n = refl
chosen_run at b rest false false w n = absurd (cc)

chosen_sign : (at b : ℕ) (rest : List ℕ) (white name : Bool)
    → white ≡ false → name ≡ false → chosen at b rest white name ≡ sign_found at b rest (pair_of b (slice_index rest 0))
chosen_sign at b rest true name w n = absurd (cc)
chosen_sign at b rest false true w n = absurd (cc)
chosen_sign at b rest false false w n = refl

-- the first piece of a text that starts with a run
run_first : (at b : ℕ) (run rest : List ℕ) → IsLongest is_name_byte (b ∷ run) rest
    → found_in at ((b ∷ run) ++ rest) ≡ run_found at (length (b ∷ run)) (letter_run_of (b ∷ run))
run_first at b run rest l =
    let name = list_all-get_or is_name_byte (b ∷ run) 0 0 l.each (omega arith) in
    let white = not_white b (is_white b) refl name in
    let size = longest_prefix is_name_byte (b ∷ run) rest l.each l.ends in
    let front : take_while is_name_byte ((b ∷ run) ++ rest) ≡ b ∷ run =
    ap (λ n. take n ((b ∷ run) ++ rest)) size ∙ take-append_seam (b ∷ run) rest in
    chosen_run at b (run ++ rest) (is_white b) (is_name_byte b) white name
    ∙ (ap (λ n. run_found at n (letter_run_of (take_while is_name_byte ((b ∷ run) ++ rest)))) size
    ∙ ap (λ z. run_found at (length (b ∷ run)) (letter_run_of z)) front)

sign_first : (at b : ℕ) (rest : List ℕ)
    → StartsSign b → found_in at (b ∷ rest) ≡ sign_found at b rest (pair_of b (slice_index rest 0))
sign_first at b rest s = chosen_sign at b rest (is_white b) (is_name_byte b) s.no_white s.no_word

first_is : (at b : ℕ) (rest : List ℕ) (fuel : ℕ) (f : Found) → found_in at (b ∷ rest) ≡ f
    → lexed (suc fuel) at (b ∷ rest) ≡ next at f (λ n. lexed fuel (at + n) (drop n (b ∷ rest)))
first_is at b rest fuel f e = ap (λ z. next at z (λ n. lexed fuel (at + n) (drop n (b ∷ rest)))) e

line_first : (at b c : ℕ) (line rest : List ℕ)
    → IsLongest is_in_line line rest → sign_found at b (c ∷ (line ++ rest)) Slashes ≡ Skipped (2 + length line)
line_first at b c line rest l = ap (λ n. Skipped (2 + n)) (longest_prefix is_in_line line rest l.each l.ends)

after_two : (b c : ℕ) (line rest : List ℕ) → drop (2 + length line) (b ∷ c ∷ (line ++ rest)) ≡ rest
after_two b c line rest =
    let e : 2 + length line ≡ suc (suc (length line)) = omega arith in rw e (drop-append_seam line rest)

-- a text that splits into a result is read with that result
pub only : {at : ℕ} {text : List ℕ} {r : Lexed}
    → Splits at text r → (fuel : ℕ) → length text ≤ fuel → lexed fuel at text ≡ r
only Ends fuel h = refl
only (Blank w s) zero h = absurd (omega arith)
only {at} (Blank {b = b} {rest = rest} w s) (suc fuel) h =
    first_is at b rest fuel (Skipped 1) (chosen_white at b rest (is_white b) (is_name_byte b) w)
    ∙ only s fuel (omega arith)
only (Comment a b line starts is l s) zero h = absurd (omega arith)
only {at} (Comment {rest = rest} a b line starts is l s) (suc fuel) h =
    let few : length rest ≤ fuel = omega (arith, length-append line rest) in
    first_is at a (b ∷ (line ++ rest)) fuel (Skipped (2 + length line))
    (sign_first at a (b ∷ (line ++ rest)) starts
    ∙ (ap (sign_found at a (b ∷ (line ++ rest))) is ∙ line_first at a b line rest l)) ∙
    (ap (lexed fuel (at + (2 + length line))) (after_two a b line rest) ∙ only s fuel few)
only (Word k [] some l is s) fuel h = absurd (omega arith)
only (Word k (b ∷ run) some l is s) zero h = absurd (omega arith)
only {at} (Word {rest = rest} k (b ∷ run) some l is s) (suc fuel) h =
    let few : length rest ≤ fuel = omega (arith, length-append run rest) in
    first_is at b (run ++ rest) fuel (Piece k (length (b ∷ run)))
    (run_first at b run rest l ∙ ap (run_found at (length (b ∷ run))) is) ∙
    ap (with_token (token_at k at (length (b ∷ run))))
    (ap (lexed fuel (at + length (b ∷ run))) (drop-append_seam (b ∷ run) rest) ∙ only s fuel few)
only (Double k a b starts is s) zero h = absurd (omega arith)
only {at} (Double {rest = rest} k a b starts is s) (suc fuel) h =
    first_is at a (b ∷ rest) fuel (Piece k 2) (sign_first at a (b ∷ rest) starts ∙ ap (sign_found at a (b ∷ rest)) is) ∙
    ap (with_token (token_at k at 2)) (only s fuel (omega arith))
only (Single k b starts is apart s) zero h = absurd (omega arith)
only {at} (Single {rest = rest} k b starts is apart s) (suc fuel) h =
    first_is at b rest fuel (Piece k 1)
    (sign_first at b rest starts ∙ (ap (sign_found at b rest) apart ∙ ap (single_found at) is)) ∙
    ap (with_token (token_at k at 1)) (only s fuel (omega arith))
only (TooBig [] some l is) fuel h = absurd (omega arith)
only (TooBig (b ∷ run) some l is) zero h = absurd (omega arith)
only {at} (TooBig {rest = rest} (b ∷ run) some l is) (suc fuel) h =
    first_is at b (run ++ rest) fuel (Faulty (error.NumberTooBig at))
    (run_first at b run rest l ∙ ap (run_found at (length (b ∷ run))) is)
only (TooLong [] some l is) fuel h = absurd (omega arith)
only (TooLong (b ∷ run) some l is) zero h = absurd (omega arith)
only {at} (TooLong {rest = rest} (b ∷ run) some l is) (suc fuel) h =
    first_is at b (run ++ rest) fuel (Faulty (error.NameTooLong at))
    (run_first at b run rest l ∙ ap (run_found at (length (b ∷ run))) is)
only (Behind [] digits some l is) fuel h = absurd (omega arith)
only (Behind (b ∷ run) digits some l is) zero h = absurd (omega arith)
only {at} (Behind {rest = rest} (b ∷ run) digits some l is) (suc fuel) h =
    first_is at b (run ++ rest) fuel (Faulty (error.BadByte (at + digits)))
    (run_first at b run rest l ∙ ap (run_found at (length (b ∷ run))) is)
only (Bad starts is apart) zero h = absurd (omega arith)
only {at} (Bad {b = b} {rest = rest} starts is apart) (suc fuel) h =
    first_is at b rest fuel (Faulty (error.BadByte at))
    (sign_first at b rest starts ∙ (ap (sign_found at b rest) apart ∙ ap (single_found at) is))

-- a text splits in one way
pub one_reading : (at : ℕ) (text : List ℕ) (a b : Lexed) → Splits at text a → Splits at text b → a ≡ b
one_reading at text a b s t = sym (only s (length text) (omega arith)) ∙ only t (length text) (omega arith)

-- a text splits into at most one list of tokens
pub same_tokens : (at : ℕ) (text : List ℕ) (a b : List Token) → Splits at text (Ok a) → Splits at text (Ok b) → a ≡ b
same_tokens at text a b s t = let e = one_reading at text (Ok a) (Ok b) s t in cc
