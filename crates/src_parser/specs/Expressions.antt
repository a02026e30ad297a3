-- The results of reading one expression among tokens. It begins with the first token, as if it were inside `opened`
-- open brackets and signs of its statement, and after `used` of the statement's operators and signs. It extends as far
-- as the tokens begin an expression for any limits of nesting (this project's profile).
use Rattle.std.specs.Prelude.{◌≡◌, ℕ, ◌+◌, ◌<◌, ◌≤◌, List, [], ◌∷◌, ◌++◌, length, take}
use Rattle.src_lexer.specs.declared.tokens.Kind.{Kind}
use Rattle.src_lexer.specs.declared.tokens.Token.{Token}
use Rattle.src_tree.specs.Trees.{Tree}
use Rattle.src_parser.specs.Grammar.{Limits, limits, operators, SpellsTree}
use Rattle.src_parser.specs.Refusals.{token_kinds}
use Rattle.src_parser.specs.declared.errors.ParseFault.{ParseFault}
use Rattle.src_parser.specs.declared.errors.ParseFault.TheVariants as error

-- these tokens are an expression with this tree
pub record IsExpression (most : Limits) (opened used : ℕ) (tokens : List Kind) (tree : Tree) : Type 0 where
  pub spells : SpellsTree most.brackets opened 0 tokens tree
  pub fits : used + operators tree ≤ most.operators

-- an expression begins with these tokens
pub record ExpressionBegins (most : Limits) (opened used : ℕ) (tokens : List Kind) : Type 0 where
  pub more : List Kind
  pub tree : Tree
  pub whole : IsExpression most opened used (tokens ++ more) tree

-- the first `count` tokens are an expression with this tree, and together with the next token they begin none, for any
-- limits of nesting
pub record FoundExpression (tokens : List Token) (opened used : ℕ) (tree : Tree) (count : ℕ) : Type 0 where
  pub within : count ≤ length tokens
  pub is : IsExpression limits opened used (token_kinds (take count tokens)) tree
  pub ends : count < length tokens → (most : Limits)
      → ExpressionBegins most opened used (token_kinds (take (count + 1) tokens)) → ⊥

-- the tokens before this one begin an expression and aren't one; together with it they begin none, for any limits of
-- nesting
pub record StrayToken (tokens : List Token) (opened used at : ℕ) : Type 0 where
  pub before : List Token
  pub token : Token
  pub after : List Token
  pub split : tokens ≡ before ++ token ∷ after
  pub place : at ≡ token.start
  pub begins : ExpressionBegins limits opened used (token_kinds before)
  pub unfinished : (tree : Tree) → IsExpression limits opened used (token_kinds before) tree → ⊥
  pub none : (most : Limits) → ExpressionBegins most opened used (token_kinds before ++ token.kind ∷ []) → ⊥

-- the tokens before this one begin an expression; together with it they begin none within the limits, but they do
-- within some other limits
pub record TokenTooDeep (tokens : List Token) (opened used at : ℕ) : Type 0 where
  pub before : List Token
  pub token : Token
  pub after : List Token
  pub split : tokens ≡ before ++ token ∷ after
  pub place : at ≡ token.start
  pub begins : ExpressionBegins limits opened used (token_kinds before)
  pub none : ExpressionBegins limits opened used (token_kinds before ++ token.kind ∷ []) → ⊥
  pub wider : Limits
  pub begins_wider : ExpressionBegins wider opened used (token_kinds before ++ token.kind ∷ [])

-- all these tokens begin an expression and aren't one
pub record CutExpression (tokens : List Token) (opened used : ℕ) : Type 0 where
  pub begins : ExpressionBegins limits opened used (token_kinds tokens)
  pub unfinished : (tree : Tree) → IsExpression limits opened used (token_kinds tokens) tree → ⊥

abbrev pub ExplainsExpression : ParseFault → List Token → (opened used : ℕ) → Type 0
ExplainsExpression (error.Unexpected at) tokens opened used = StrayToken tokens opened used at
ExplainsExpression error.EndOfText tokens opened used = CutExpression tokens opened used
ExplainsExpression (error.TooDeep at) tokens opened used = TokenTooDeep tokens opened used at
