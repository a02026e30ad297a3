-- Laws of the tokens with which the rest of a text begins.
use Rattle.std.proofs.Common.{◌≡◌, List, [], ◌∷◌, ◌++◌, refl, sym, ap, subst, ◌∙◌, Ok, Err}
use Rattle.std.proofs.lemmas.List.{append-nil}
use Rattle.src_lexer.specs.declared.tokens.Token.{Token}
use Rattle.src_lexer.specs.declared.errors.LexFault.{LexFault}
use Rattle.src_lexer.specs.Prelude.{Lexed, with_token, with_tokens, Splits, Ends, Unread, BeginsWith}

-- some tokens and then others precede what both together do
pub tokens_append : (first second : List Token) (reading : Lexed)
    → with_tokens (first ++ second) reading ≡ with_tokens first (with_tokens second reading)
tokens_append [] second reading = refl
tokens_append (token ∷ first) second reading = ap (with_token token) (tokens_append first second reading)

-- tokens that precede other tokens
pub tokens_before : (first second : List Token) → with_tokens first (Ok second) ≡ Ok (first ++ second)
tokens_before [] second = refl
tokens_before (token ∷ first) second = ap (with_token token) (tokens_before first second)

-- an error stays the first one after some tokens
pub tokens_before_fault : (tokens : List Token) (e : LexFault) → with_tokens tokens (Err e) ≡ Err e
tokens_before_fault [] e = refl
tokens_before_fault (token ∷ tokens) e = ap (with_token token) (tokens_before_fault tokens e)

-- the tokens of two steps
pub begins_with_both : {first second third : Unread} (tokens more : List Token)
    → BeginsWith first tokens second → BeginsWith second more third → BeginsWith first (tokens ++ more) third
begins_with_both {first} tokens more a b =
    record {
      splits = λ reading s. subst (λ z. Splits first.at first.rest z) (sym (tokens_append tokens more reading))
          (a.splits (with_tokens more reading) (b.splits reading s));
    }

-- where nothing is left, the list of tokens is empty
pub ends_there : (left : Unread) → left.rest ≡ [] → Splits left.at left.rest (Ok [])
ends_there left e = subst (λ z. Splits left.at z (Ok [])) (sym e) Ends

-- if nothing is left after them, the tokens are all of them
pub all_of_them : {before after : Unread} (tokens : List Token)
    → BeginsWith before tokens after → after.rest ≡ [] → Splits before.at before.rest (Ok tokens)
all_of_them {before} {after} tokens b e =
    subst (λ z. Splits before.at before.rest z) (tokens_before tokens [] ∙ ap Ok (append-nil tokens))
    (b.splits (Ok []) (ends_there after e))

-- the first error after some tokens is the first error
pub fault_after : {before after : Unread} (tokens : List Token) (e : LexFault)
    → BeginsWith before tokens after → Splits after.at after.rest (Err e) → Splits before.at before.rest (Err e)
fault_after {before} tokens e b s =
    subst (λ z. Splits before.at before.rest z) (tokens_before_fault tokens e) (b.splits (Err e) s)
