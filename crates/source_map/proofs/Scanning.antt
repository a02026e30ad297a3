-- Tokens are scanned in order: those of lists that are put together, and a list with one more.
use Rattle.std.proofs.Common.{◌≡◌, ℕ, suc, ◌+◌, ◌<◌, ◌≤◌, List, [], ◌∷◌, ◌++◌, length, get_or, drop, drop-cons, sym, ◌∙◌, ap, arith}
use Rattle.std.proofs.lemmas.List.{drop_all}
use Rattle.src_lexer.specs.declared.tokens.Kind.{Kind}
use Rattle.src_lexer.specs.declared.tokens.Token.{Token}
use Rattle.src_parser.specs.Refusals.{token_kinds}
use Rattle.source_map.specs.Scans.{Scan, scanned, scans}

-- some tokens, and then others
pub scans_both : (at : ℕ) (scan : Scan) (xs ys : List Kind)
    → scans at scan (xs ++ ys) ≡ scans (at + length xs) (scans at scan xs) ys
scans_both at scan [] ys = ap (λ n. scans n scan ys) (let e : at ≡ at + 0 = omega arith in e)
scans_both at scan (x ∷ xs) ys =
    scans_both (at + 1) (scanned at scan x) xs ys
    ∙ ap (λ n. scans n (scans (at + 1) (scanned at scan x) xs) ys)
    (let e : at + 1 + length xs ≡ at + length (x ∷ xs) = omega arith in e)

-- the next token of a list
pub scans_next : (at new : ℕ) (scan next : Scan) (tokens : List Token) (i : ℕ) (token : Token) → i < length tokens
    → token ≡ get_or tokens i token → new ≡ at + 1 → next ≡ scanned at scan token.kind
    → scans at scan (token_kinds (drop i tokens)) ≡ scans new next (token_kinds (drop (i + 1) tokens))
scans_next at new scan next tokens i token low is count step =
    let e : drop i tokens ≡ token ∷ drop (i + 1) tokens =
    drop-cons tokens i token low ∙ ap (λ z. z ∷ drop (suc i) tokens) (sym is)
    ∙ ap (λ n. token ∷ drop n tokens) (let s : suc i ≡ i + 1 = omega arith in s) in
    ap (λ z. scans at scan (token_kinds z)) e
    ∙ ap (λ n. scans n (scanned at scan token.kind) (token_kinds (drop (i + 1) tokens))) (sym count)
    ∙ ap (λ z. scans new z (token_kinds (drop (i + 1) tokens))) (sym step)

-- nothing is left
pub scans_done : (at : ℕ) (scan : Scan) (tokens : List Token) (i : ℕ) → length tokens ≤ i
    → scans at scan (token_kinds (drop i tokens)) ≡ scan
scans_done at scan tokens i high =
    ap (λ z. scans at scan (token_kinds z)) (let e : drop i tokens ≡ [] = drop_all i tokens high in e)
