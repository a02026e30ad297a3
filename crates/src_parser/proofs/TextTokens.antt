-- A text whose tokens are read some at a time.
use Rattle.std.proofs.Common.{◌≡◌, ℕ, List, [], ◌++◌, refl, sym, ap, ◌∙◌, subst, Ok, Err}
use Rattle.std.proofs.lemmas.List.{append-nil}
use Rattle.src_lexer.specs.declared.tokens.Token.{Token}
use Rattle.src_lexer.specs.declared.errors.LexFault.{LexFault}
use Rattle.src_lexer.specs.Prelude.{Splits, Unread, BeginsWith}
use Rattle.src_lexer.proofs.Unread.{begins_with_both, all_of_them, fault_after, tokens_before}
use Rattle.src_parser.specs.Prelude.{ErrsFirst, HasTokens, ExplainsTextBy}
use Rattle.src_parser.specs.declared.errors.ParseFault.{ParseFault}
use Rattle.src_parser.specs.declared.errors.TextFault.{TextFault}
use Rattle.src_parser.specs.declared.errors.TextFault.TheVariants as text

-- a text of which nothing is read
abbrev pub whole : List ℕ → Unread
whole bytes = record { at = 0; rest = bytes }

-- between what was left and what is left there are tokens of which this is true
pub record Past (Is : List Token → Type 0) (before after : Unread) : Type 0 where
  pub tokens : List Token
  pub begins : BeginsWith before tokens after
  pub is : Is tokens

-- tokens of which nothing is asked
abbrev pub Any : List Token → Type 0
Any tokens = Unit {0}

-- the tokens of one step more, which are passed on as a slice
pub past_more : {Is Next : List Token → Type 0} {before middle after : Unread} (more slice : List Token) → slice ≡ more
    → Past Is before middle → BeginsWith middle more after → ((tokens : List Token) → Is tokens → Next (tokens ++ slice))
    → Past Next before after
past_more {Next = Next} more slice same p b next = record {
  tokens = p.tokens ++ more;
  begins = begins_with_both p.tokens more p.begins b;
  is = subst (λ (ts : List Token). Next (p.tokens ++ ts)) same (next p.tokens p.is);
}

-- the end of a text, where a step finds no tokens
pub at_end : {Is : List Token → Type 0} {before middle after : Unread} (more : List Token) → Past Is before middle
    → BeginsWith middle more after → more ≡ [] → (more ≡ [] → after.rest ≡ [])
    → Splits middle.at middle.rest (Ok [])
at_end {middle = middle} more p b none ends =
    subst (λ (ts : List Token). Splits middle.at middle.rest (Ok ts)) none (all_of_them more b (ends none))

-- the tokens that were read are all tokens of the text
pub has_tokens : {Is : List Token → Type 0} {Goal : List Token → Type 0} (bytes : List ℕ) {middle after : Unread}
    (more : List Token) → Past Is (whole bytes) middle → BeginsWith middle more after → more ≡ []
    → (more ≡ [] → after.rest ≡ []) → ((tokens : List Token) → Is tokens → Goal tokens) → HasTokens Goal bytes
has_tokens bytes {middle} {after} more p b none ends goal = record {
  tokens = p.tokens;
  split = subst (λ r. Splits 0 bytes r) (tokens_before p.tokens [] ∙ ap Ok (append-nil p.tokens))
      (p.begins.splits (Ok []) (at_end more p b none ends));
  is = goal p.tokens p.is;
}

-- a fault of the pieces that are left is the text's
pub piece_fault : {Is : List Token → Type 0} (bytes : List ℕ) {middle : Unread} (e : LexFault)
    → Past Is (whole bytes) middle → Splits middle.at middle.rest (Err e) → Splits 0 bytes (Err e)
piece_fault bytes e p s = fault_after p.tokens e p.begins s

-- the fault of a text of which a token is wrong: `Wrong` is true of all tokens that begin with those up to that token
pub wrong_token : (Explains : ParseFault → List Token → Type 0) {Is : List Token → Type 0} (bytes : List ℕ)
    {middle after : Unread} (more slice : List Token) (wrong : ParseFault) (e : TextFault) → slice ≡ more
    → Past Is (whole bytes) middle → BeginsWith middle more after
    → ((before rest : List Token) → Is before → Explains wrong ((before ++ slice) ++ rest))
    → ErrsFirst after wrong e → ExplainsTextBy Explains e bytes
wrong_token Explains bytes more slice wrong (text.Pieces e) same p b explains errs =
    piece_fault bytes e (past_more {Next = Any} more more refl p b (λ tokens is. tt)) errs
wrong_token Explains bytes more slice wrong (text.Tokens e) same p b explains errs = record {
  tokens = (p.tokens ++ more) ++ errs.1.tokens;
  split = subst (λ r. Splits 0 bytes r) (tokens_before (p.tokens ++ more) errs.1.tokens)
      ((begins_with_both p.tokens more p.begins b).splits (Ok errs.1.tokens) errs.1.split);
  is = subst (λ (w : ParseFault). Explains w ((p.tokens ++ more) ++ errs.1.tokens)) (sym errs.0)
      (subst (λ (ts : List Token). Explains wrong ((p.tokens ++ ts) ++ errs.1.tokens)) same
      (explains p.tokens errs.1.tokens p.is));
}

-- the fault of what is left
pub left_fault : {left after : Unread} (wrong : ParseFault) (e : LexFault) → Past Any left after
    → Splits after.at after.rest (Err e) → ErrsFirst left wrong (text.Pieces e)
left_fault wrong e p s = fault_after p.tokens e p.begins s

-- what is left splits
pub left_splits : {left middle after : Unread} (more : List Token) (wrong : ParseFault) → Past Any left middle
    → BeginsWith middle more after → more ≡ [] → (more ≡ [] → after.rest ≡ [])
    → ErrsFirst left wrong (text.Tokens wrong)
left_splits {left} more wrong p b none ends = (
  refl,
  record {
    tokens = p.tokens;
    split = subst (λ r. Splits left.at left.rest r) (tokens_before p.tokens [] ∙ ap Ok (append-nil p.tokens))
        (p.begins.splits (Ok []) (at_end more p b none ends));
  },
)
