-- For the proofs and for private clauses only: tokens that are read from any state, and the first that isn't; and what
-- is left of a text.
use Rattle.std.specs.Prelude.{◌≡◌, ℕ, List, ◌∷◌, ◌++◌, Ok, Err}
use Rattle.src_lexer.specs.declared.tokens.Kind.{Kind}
use Rattle.src_lexer.specs.declared.tokens.Token.{Token}
use Rattle.src_lexer.specs.Splits.{Splits}
use Rattle.src_lexer.specs.Unread.{Unread}
use Rattle.src_parser.specs.Grammar.{Limits, limits}
use Rattle.src_parser.specs.Refusals.{token_kinds}
use Rattle.src_parser.specs.Tokenwise.{Advance, Goes, Wrong, TooMuch, advances}
use Rattle.src_parser.specs.declared.errors.ParseFault.{ParseFault}
use Rattle.src_parser.specs.declared.errors.TextFault.{TextFault}
use Rattle.src_parser.specs.declared.errors.ParseFault.TheVariants as error
use Rattle.src_parser.specs.declared.errors.TextFault.TheVariants as text

-- these tokens lead from a state to another one
abbrev pub ReadsTo : {S : Type 0} → (Limits → S → Kind → Advance S) → S → List Token → S → Type 0
ReadsTo advanced state tokens last = advances advanced limits state (token_kinds tokens) ≡ Goes last

-- the tokens before this one are read, and it isn't
pub record StopsAt {S : Type 0} (advanced : Limits → S → Kind → Advance S) (state : S) (tokens : List Token)
    (at : ℕ) (how : Advance S) : Type 0 where
  pub front : List Token
  pub token : Token
  pub back : List Token
  pub split : tokens ≡ front ++ token ∷ back
  pub place : at ≡ token.start  -- in bytes
  pub last : S
  pub leads : ReadsTo advanced state front last
  pub stops : advanced limits last token.kind ≡ how

-- why these tokens aren't all read from a state
abbrev pub Stops : {S : Type 0} → (Limits → S → Kind → Advance S) → S → List Token → ParseFault → Type 0
Stops advanced state tokens (error.Unexpected at) = StopsAt advanced state tokens at Wrong
Stops advanced state tokens (error.TooDeep at) = StopsAt advanced state tokens at TooMuch
Stops advanced state tokens error.EndOfText = ⊥

-- what is left of a text splits into some tokens
pub record SplitsUp (left : Unread) : Type 0 where
  pub tokens : List Token
  pub split : Splits left.at left.rest (Ok tokens)

-- the error of a text of which a token is wrong, by what is left of it
abbrev pub ErrsFirst : Unread → ParseFault → TextFault → Type 0
ErrsFirst left wrong (text.Pieces e) = Splits left.at left.rest (Err e)
ErrsFirst left wrong (text.Tokens e) = (e ≡ wrong) × SplitsUp left
