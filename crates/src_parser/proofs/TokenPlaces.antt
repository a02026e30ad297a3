-- The place of a token among all tokens.
use Rattle.std.proofs.Common.{◌≡◌, ℕ, ◌+◌, ◌<◌, List, [], ◌∷◌, ◌++◌, length, take, drop, get_or, sym, ap, ◌∙◌, append_assoc}
use Rattle.std.proofs.lemmas.List.{take_more, take-append-drop, map-append}
use Rattle.src_lexer.specs.declared.tokens.Token.{Token}
use Rattle.src_parser.specs.Prelude.{token_kinds}

read_so_far : (tokens : List Token) (i : ℕ) (token : Token)
    → i < length tokens → token ≡ get_or tokens i token → take (i + 1) tokens ≡ take i tokens ++ token ∷ []
read_so_far tokens i token h is = take_more tokens i token h ∙ ap (λ t. take i tokens ++ t ∷ []) (sym is)

-- the token at a place is after the tokens before it and before the rest
pub split_at : (tokens : List Token) (i : ℕ) (token : Token)
    → i < length tokens → token ≡ get_or tokens i token → tokens ≡ take i tokens ++ token ∷ drop (i + 1) tokens
split_at tokens i token h is =
    sym (take-append-drop (i + 1) tokens) ∙ (ap (λ xs. xs ++ drop (i + 1) tokens) (read_so_far tokens i token h is)
    ∙ append_assoc (take i tokens) (token ∷ []) (drop (i + 1) tokens))

pub kinds_more : (tokens : List Token) (i : ℕ) (token : Token) → i < length tokens → token ≡ get_or tokens i token
    → token_kinds (take (i + 1) tokens) ≡ token_kinds (take i tokens) ++ token.kind ∷ []
kinds_more tokens i token h is =
    ap token_kinds (read_so_far tokens i token h is) ∙ map-append (λ (t : Token). t.kind) (take i tokens) (token ∷ [])
