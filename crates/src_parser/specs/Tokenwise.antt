-- A parser that reads token by token, with any states and any results; and what its errors mean, by the grammar only
-- (`Sentence`).
use Rattle.std.specs.Prelude.{◌≡◌, ℕ, Bool, true, false, List, [], ◌∷◌, ◌++◌, Option, None}
use Rattle.src_lexer.specs.declared.tokens.Kind.{Kind}
use Rattle.src_lexer.specs.declared.tokens.Token.{Token}
use Rattle.src_parser.specs.Grammar.{Limits, limits}
use Rattle.src_parser.specs.Refusals.{token_kinds, Shallow}

pub data Advance (S : Type 0) : Type 0 where
  Goes : (state : S) → Advance S
  Wrong : Advance S
  TooMuch : Advance S

-- an advance of a part, as an advance of the whole
abbrev pub mapped : {A B : Type 0} → (A → B) → Advance A → Advance B
mapped f (Goes state) = Goes (f state)
mapped f Wrong = Wrong
mapped f TooMuch = TooMuch

-- an advance that opens a brace, if there is room
abbrev pub with_braces : {S : Type 0} → Bool → S → Advance S
with_braces true state = Goes state
with_braces false state = TooMuch

abbrev pub then_advance : {S : Type 0} → Advance S → (S → Advance S) → Advance S
then_advance (Goes state) next = next state
then_advance Wrong next = Wrong
then_advance TooMuch next = TooMuch

abbrev pub advances : {S : Type 0} → (Limits → S → Kind → Advance S) → Limits → S → List Kind → Advance S
advances advanced most state [] = Goes state
advances advanced most state (k ∷ ks) = then_advance (advanced most state k) (λ next. advances advanced most next ks)

abbrev pub after_advance : {S P : Type 0} → Advance S → (S → Option P) → Option P
after_advance (Goes state) next = next state
after_advance Wrong next = None
after_advance TooMuch next = None

abbrev pub parsed : {S P : Type 0} → (Limits → S → Kind → Advance S) → (S → Option P) → Limits → S → List Kind
    → Option P
parsed advanced gives most state [] = gives state
parsed advanced gives most state (k ∷ ks) =
    after_advance (advanced most state k) (λ next. parsed advanced gives most next ks)

-- with some more tokens, these are a sentence
pub record Completes {P : Type 0} (Sentence : Limits → List Kind → P → Type 0) (most : Limits)
    (tokens : List Kind) : Type 0 where
  pub more : List Kind
  pub tree : P
  pub sentence : Sentence most (tokens ++ more) tree

-- these tokens begin a sentence and exceed no limit: with some more tokens they are a sentence, however deep the
-- nesting of the braces that they open
pub record Begins {P : Type 0} (Sentence : Limits → List Kind → P → Type 0) (most : Limits)
    (tokens : List Kind) : Type 0 where
  pub shallow : Shallow most.braces 0 tokens
  pub braces : ℕ
  pub more : List Kind
  pub tree : P
  pub sentence : Sentence (record { brackets = most.brackets; braces = braces; operators = most.operators })
      (tokens ++ more) tree

pub record Stray {P : Type 0} (Sentence : Limits → List Kind → P → Type 0) (tokens : List Token) (at : ℕ)
    : Type 0 where
  pub before : List Token
  pub token : Token
  pub after : List Token
  pub split : tokens ≡ before ++ token ∷ after
  pub place : at ≡ token.start  -- in bytes
  pub begins : Begins Sentence limits (token_kinds before)
  pub none : (most : Limits) → Begins Sentence most (token_kinds before ++ token.kind ∷ []) → ⊥

pub record Deeper {P : Type 0} (Sentence : Limits → List Kind → P → Type 0) (tokens : List Token) (at : ℕ)
    : Type 0 where
  pub before : List Token
  pub token : Token
  pub after : List Token
  pub split : tokens ≡ before ++ token ∷ after
  pub place : at ≡ token.start
  pub begins : Begins Sentence limits (token_kinds before)
  pub none : Begins Sentence limits (token_kinds before ++ token.kind ∷ []) → ⊥
  pub wider : Limits
  pub begins_wider : Begins Sentence wider (token_kinds before ++ token.kind ∷ [])

pub record Cut {P : Type 0} (Sentence : Limits → List Kind → P → Type 0) (tokens : List Token) : Type 0 where
  pub begins : Begins Sentence limits (token_kinds tokens)
  pub none : (tree : P) → Sentence limits (token_kinds tokens) tree → ⊥
