-- Why tokens aren't a program: the three errors of the parser, each at its first place (this project's profile).
use Rattle.std.specs.Prelude.{◌≡◌, ℕ, ◌+◌, ◌-◌, ◌<◌, List, [], ◌∷◌, ◌++◌, map}
use Rattle.src_lexer.specs.declared.tokens.Kind.{Kind}
use Rattle.src_lexer.specs.declared.tokens.Token.{Token}
use Rattle.src_tree.specs.Trees.{Source}
use Rattle.src_parser.specs.Grammar.{Limits, limits, Sentence}
use Rattle.src_lexer.specs.declared.tokens.Kind.TheVariants as kind

-- the kinds of tokens, without their places
abbrev pub token_kinds : List Token → List Kind
token_kinds tokens = map (λ token. token.kind) tokens

-- each `{` of these tokens is inside fewer than `most` open ones, of which `depth` are before these tokens
abbrev pub Shallow : (most depth : ℕ) → List Kind → Type 0
Shallow most depth [] = Unit {0}
Shallow most depth (kind.LBrace ∷ tokens) = (depth < most) × Shallow most (depth + 1) tokens
Shallow most depth (kind.RBrace ∷ tokens) = Shallow most (depth - 1) tokens
Shallow most depth (token ∷ tokens) = Shallow most depth tokens

-- these tokens begin a program and exceed no limit: with some more tokens they are a program, however deep the nesting
-- of the braces that they open
pub record ProgramBegins (most : Limits) (tokens : List Kind) : Type 0 where
  pub shallow : Shallow most.braces 0 tokens
  pub braces : ℕ
  pub more : List Kind
  pub program : Source
  pub sentence : Sentence (record { brackets = most.brackets; braces = braces; operators = most.operators })
      (tokens ++ more) program

-- the tokens before this one begin a program; together with it they begin none, for any limits of nesting
-- Rule: source/unexpected.
pub record Unexpected (tokens : List Token) (at : ℕ) : Type 0 where
  pub before : List Token
  pub token : Token
  pub after : List Token
  pub split : tokens ≡ before ++ token ∷ after
  pub place : at ≡ token.start  -- in bytes
  pub begins : ProgramBegins limits (token_kinds before)
  pub none : (most : Limits) → ProgramBegins most (token_kinds before ++ token.kind ∷ []) → ⊥

-- the tokens before this one begin a program; together with it they begin none within the limits, but they do within
-- some other limits
-- Rule: source/deep.
pub record TooDeep (tokens : List Token) (at : ℕ) : Type 0 where
  pub before : List Token
  pub token : Token
  pub after : List Token
  pub split : tokens ≡ before ++ token ∷ after
  pub place : at ≡ token.start
  pub begins : ProgramBegins limits (token_kinds before)
  pub none : ProgramBegins limits (token_kinds before ++ token.kind ∷ []) → ⊥
  pub wider : Limits
  pub begins_wider : ProgramBegins wider (token_kinds before ++ token.kind ∷ [])

-- the tokens begin a program and aren't one
-- Rule: source/end.
pub record CutShort (tokens : List Token) : Type 0 where
  pub begins : ProgramBegins limits (token_kinds tokens)
  pub none : (program : Source) → Sentence limits (token_kinds tokens) program → ⊥
