-- Reading a text piece by piece.
use Rattle.std.proofs.Common.{◌≡◌, ◌⊎◌, inl, inr, ℕ, ◌+◌, ◌<◌, ◌≤◌, List, [], ◌∷◌, ◌++◌, length, length-append, drop, sym, subst, length-drop, arith, Ok, Err}
use Rattle.std.proofs.lemmas.List.{append-nil, drop-drop, drop_all}
use Rattle.gr_base.specs.Prelude.{IfFault}
use Rattle.gr_base.specs.declared.errors.Fail.{Fail}
use Rattle.gr_base.specs.declared.errors.Fail.TheVariants.{Fault, Memory}
use Rattle.src_lexer.specs.declared.tokens.Kind.{Kind}
use Rattle.src_lexer.specs.declared.tokens.Token.{Token}
use Rattle.src_lexer.specs.declared.errors.LexFault.{LexFault}
use Rattle.src_lexer.specs.Prelude.{token_at, Splits, left_from, BeginsWith, Found, Skipped, Piece, Faulty, found_in}
use Rattle.src_lexer.proofs.Unread.{begins_with_both, all_of_them, fault_after}
use Rattle.src_lexer.proofs.FirstPieces.{Allows, found_allows}

-- these tokens were read from one byte of a text to another; each has at least one byte
pub record Stands (text : List ℕ) (at end : ℕ) (tokens : List Token) : Type 0 where
  pub inside : end ≤ length text
  pub sizes : at + length tokens ≤ end
  pub begins : BeginsWith (left_from at text) tokens (left_from end text)

allows : (at : ℕ) (text : List ℕ) → 0 < length text → Allows at text (found_in at text)
allows at [] h = absurd (omega arith)
allows at (b ∷ rest) h = found_allows at b rest

some_left : (text : List ℕ) (at : ℕ) → at < length text → 0 < length (drop at text)
some_left text at h = omega (arith, length-drop at text)

allowed : (text : List ℕ) (at : ℕ) (f : Found)
    → at < length text → found_in at (drop at text) ≡ f → Allows at (drop at text) f
allowed text at f h is = subst (λ z. Allows at (drop at text) z) is (allows at (drop at text) (some_left text at h))

-- the first piece of the rest of a text, which is given as another text
first_piece : (text : List ℕ) (at : ℕ) {rest : List ℕ} (f : Found)
    → at < length text → rest ≡ drop at text → f ≡ found_in at rest → Allows at (drop at text) f
first_piece text at f h is e = allowed text at f h (subst (λ z. found_in at z ≡ f) is (sym e))

-- the rest of a text begins with no tokens up to the byte after white space or a comment
begins_after_skipped : (text : List ℕ) (end n : ℕ) → Allows end (drop end text) (Skipped n)
    → BeginsWith (left_from end text) [] (left_from (end + n) text)
begins_after_skipped text end n a =
    record { splits = λ r t. a.2 r (subst (λ z. Splits (end + n) z r) (sym (drop-drop n end text)) t) }

-- the rest of a text begins with its first token
begins_with_token : (text : List ℕ) (end n : ℕ) (k : Kind) → Allows end (drop end text) (Piece k n)
    → BeginsWith (left_from end text) (token_at k end n ∷ []) (left_from (end + n) text)
begins_with_token text end n k a =
    record { splits = λ r t. a.2 r (subst (λ z. Splits (end + n) z r) (sym (drop-drop n end text)) t) }

-- one more token, if there is room for it
pub few_enough : (tokens : List Token) (t : Token) {most : ℕ} → length tokens < most → length (tokens ++ t ∷ []) ≤ most
few_enough tokens t room = let more = length-append tokens (t ∷ []) in omega arith

-- white space or a comment is skipped
pub skips_from : {text rest : List ℕ} {at end n : ℕ} {tokens : List Token}
    → Stands text at end tokens → end < length text → rest ≡ drop end text → Skipped n ≡ found_in end rest
    → Stands text at (end + n) tokens
skips_from {text} {at = at} {end} {n} {tokens} s h is e =
    let a = first_piece text end (Skipped n) h is e in
    let few = a.1 in
    let sizes = s.sizes in
    let size = length-drop end text in
    record {
      inside = omega arith;
      sizes = omega arith;
      begins = subst (λ z. BeginsWith (left_from at text) z (left_from (end + n) text)) (append-nil tokens)
          (begins_with_both tokens [] s.begins (begins_after_skipped text end n a));
    }

-- one more token is added
pub takes_from : {text rest : List ℕ} {at end n : ℕ} {k : Kind} {tokens : List Token}
    → Stands text at end tokens → end < length text → rest ≡ drop end text → Piece k n ≡ found_in end rest
    → Stands text at (end + n) (tokens ++ token_at k end n ∷ [])
takes_from {text} {at = at} {end} {n} {k} {tokens} s h is e =
    let a = first_piece text end (Piece k n) h is e in
    let some = a.0 in
    let few = a.1 in
    let sizes = s.sizes in
    let size = length-drop end text in
    let one_more = length-append tokens (token_at k end n ∷ []) in
    record {
      inside = omega arith;
      sizes = omega arith;
      begins = begins_with_both tokens (token_at k end n ∷ []) s.begins (begins_with_token text end n k a);
    }

-- an error after the tokens so far is the first one
pub fault_from : {text rest : List ℕ} {at end : ℕ} {tokens : List Token} (e : Fail LexFault)
    → Stands text at end tokens → end < length text → rest ≡ drop end text
    → IfFault (λ fault. found_in end rest ≡ Faulty fault) e → IfFault (λ fault. Splits at (drop at text) (Err fault)) e
fault_from Memory s h is f = tt
fault_from {text} {end = end} {tokens = tokens} (Fault fault) s h is f =
    fault_after tokens fault s.begins (first_piece text end (Faulty fault) h is (sym f))

-- a text is read to its end, since it has no more tokens than bytes
pub all_read : (text : List ℕ) (end : ℕ) (tokens : List Token) → BeginsWith (left_from 0 text) tokens (left_from end text)
    → 0 + length tokens ≤ end → end ≤ length text → (length text ≤ end) ⊎ (length text + 1 ≤ length tokens)
    → Splits 0 text (Ok tokens)
all_read text end tokens begins sizes inside (inl ended) = all_of_them tokens begins (drop_all end text ended)
all_read text end tokens begins sizes inside (inr many) = absurd (omega arith)
