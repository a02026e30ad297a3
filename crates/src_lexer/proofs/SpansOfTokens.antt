-- The tokens of a text are in order, each at the bytes that are its text.
use Rattle.std.proofs.Common.{◌≡◌, ℕ, ◌+◌, ◌<◌, ◌≤◌, List, [], ◌∷◌, ◌++◌, length, length-append, take, drop, sym, ap, ◌∙◌, subst, arith, Ok, Err}
use Rattle.std.proofs.lemmas.List.{drop-drop}
use Rattle.std.proofs.Math.Seq.{take-append_seam, drop-append_seam}
use Rattle.src_lexer.specs.declared.tokens.Kind.{Kind}
use Rattle.src_lexer.specs.declared.tokens.Token.{Token}
use Rattle.src_lexer.specs.Prelude.{Lexed, with_token, token_at, Splits, Ends, Blank, Comment, Word, Double, Single, Spelled, ByRun, ByOne, ByTwo, InOrder, IsSlice, AreSlices}

abbrev pub SpansOf : ℕ → ℕ → Lexed → Type 0
SpansOf at end (Ok tokens) = InOrder at end tokens
SpansOf at end (Err e) = Unit {0}

earlier : (low at end : ℕ) (tokens : List Token) → low ≤ at → InOrder at end tokens → InOrder low end tokens
earlier low at end [] h o = omega arith
earlier low at end (token ∷ tokens) h o = let a = o.0 in (omega arith, o.1, o.2)

skipped : (at next end last : ℕ) (r : Lexed) → at ≤ next → end ≡ last → SpansOf next end r → SpansOf at last r
skipped at next end last (Ok tokens) h e o = subst (λ z. InOrder at z tokens) e (earlier at next end tokens h o)
skipped at next end last (Err x) h e o = tt

token_first : (k : Kind) (at size end last : ℕ) (r : Lexed)
    → 0 < size → end ≡ last → SpansOf (at + size) end r → SpansOf at last (with_token (token_at k at size) r)
token_first k at size end last (Ok tokens) some e o = (omega arith, some, subst (λ z. InOrder (at + size) z tokens) e o)
token_first k at size end last (Err x) some e o = tt

pub spans : {at : ℕ} {text : List ℕ} {r : Lexed} → Splits at text r → SpansOf at (at + length text) r
spans Ends = omega arith
spans {at} {text} {r} (Blank {rest = rest} w s) =
    skipped at (at + 1) (at + 1 + length rest) (at + length text) r (omega arith) (omega arith) (spans s)
spans {at} {text} {r} (Comment {rest = rest} a b line starts is l s) =
    skipped at (at + (2 + length line)) (at + (2 + length line) + length rest) (at + length text) r (omega arith)
    (let e = length-append line rest in omega arith) (spans s)
spans {at} {text} (Word {rest = rest} {reading = r} k run some l is s) =
    token_first k at (length run) (at + length run + length rest) (at + length text) r some
    (let e = length-append run rest in omega arith) (spans s)
spans {at} {text} (Double {rest = rest} {reading = r} k a b starts is s) =
    token_first k at 2 (at + 2 + length rest) (at + length text) r (omega arith) (omega arith) (spans s)
spans {at} {text} (Single {rest = rest} {reading = r} k b starts is apart s) =
    token_first k at 1 (at + 1 + length rest) (at + length text) r (omega arith) (omega arith) (spans s)
spans _ = tt

abbrev pub SlicesOf : List ℕ → Lexed → Type 0
SlicesOf text (Ok tokens) = AreSlices text tokens
SlicesOf text (Err e) = Unit {0}

slice_first : (text : List ℕ) (k : Kind) (at size : ℕ) (r : Lexed)
    → IsSlice text (token_at k at size) → SlicesOf text r → SlicesOf text (with_token (token_at k at size) r)
slice_first text k at size (Ok tokens) i o = (i, o)
slice_first text k at size (Err e) i o = tt

behind : (text piece rest : List ℕ) (at : ℕ) → drop at text ≡ piece ++ rest → drop (at + length piece) text ≡ rest
behind text piece rest at e =
    sym (drop-drop (length piece) at text) ∙ (ap (drop (length piece)) e ∙ drop-append_seam piece rest)

front : (text piece rest : List ℕ) (k : Kind) (at : ℕ)
    → drop at text ≡ piece ++ rest → Spelled piece k → IsSlice text (token_at k at (length piece))
front text piece rest k at e s =
    subst (λ z. Spelled z k) (sym (ap (take (length piece)) e ∙ take-append_seam piece rest)) s

line_length : (a b : ℕ) (line : List ℕ) → 2 + length line ≡ length (a ∷ b ∷ line)
line_length a b line = omega arith

-- the bytes of each token's span are its text
pub slices : {at : ℕ} {part : List ℕ} {r : Lexed}
    → Splits at part r → (text : List ℕ) → drop at text ≡ part → SlicesOf text r
slices Ends text e = tt
slices {at} (Blank {b = b} {rest = rest} w s) text e = slices s text (behind text (b ∷ []) rest at e)
slices {at} (Comment {rest = rest} a b line starts is l s) text e =
    slices s text (ap (λ n. drop (at + n) text) (line_length a b line) ∙ behind text (a ∷ b ∷ line) rest at e)
slices {at} (Word {rest = rest} {reading = r} k run some l is s) text e =
    slice_first text k at (length run) r (front text run rest k at e (ByRun run k is))
    (slices s text (behind text run rest at e))
slices {at} (Double {rest = rest} {reading = r} k a b starts is s) text e =
    slice_first text k at 2 r (front text (a ∷ b ∷ []) rest k at e (ByTwo a b k is))
    (slices s text (behind text (a ∷ b ∷ []) rest at e))
slices {at} (Single {rest = rest} {reading = r} k b starts is apart s) text e =
    slice_first text k at 1 r (front text (b ∷ []) rest k at e (ByOne b k is))
    (slices s text (behind text (b ∷ []) rest at e))
slices _ text e = tt

none_before : (text : List ℕ) → 0 + length text ≡ length text
none_before text = omega arith

-- the spans of the tokens of a text are in order
pub spans_of_text : (text : List ℕ) (tokens : List Token) → Splits 0 text (Ok tokens) → InOrder 0 (length text) tokens
spans_of_text text tokens s = subst (λ z. InOrder 0 z tokens) (none_before text) (spans s)
