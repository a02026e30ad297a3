-- A source text: it splits into tokens, and these are a program; or its first error (this project's profile).
use Rattle.std.specs.Prelude.{ℕ, List, Ok, Err}
use Rattle.src_lexer.specs.declared.tokens.Token.{Token}
use Rattle.src_lexer.specs.Splits.{Splits}
use Rattle.src_tree.specs.Trees.{Source}
use Rattle.src_parser.specs.Explained.{ExplainsTokens}
use Rattle.src_parser.specs.Grammar.{limits, Sentence}
use Rattle.src_parser.specs.Refusals.{token_kinds}
use Rattle.src_parser.specs.declared.errors.ParseFault.{ParseFault}
use Rattle.src_parser.specs.declared.errors.TextFault.{TextFault}
use Rattle.src_parser.specs.declared.errors.TextFault.TheVariants as fault

-- a text encodes a program
pub record SpellsSource (text : List ℕ) (program : Source) : Type 0 where
  pub tokens : List Token
  pub split : Splits 0 text (Ok tokens)
  pub sentence : Sentence limits (token_kinds tokens) program

-- a text splits into tokens of which this is true
pub record HasTokens (Is : List Token → Type 0) (text : List ℕ) : Type 0 where
  pub tokens : List Token
  pub split : Splits 0 text (Ok tokens)
  pub is : Is tokens

-- Why a text isn't what its tokens are read as: the first fault of its pieces; or it splits into tokens, and this fault
-- is true of them.
abbrev pub ExplainsTextBy : (ParseFault → List Token → Type 0) → TextFault → List ℕ → Type 0
ExplainsTextBy Explains (fault.Pieces e) text = Splits 0 text (Err e)
ExplainsTextBy Explains (fault.Tokens e) text = HasTokens (Explains e) text

-- why a text isn't a program
abbrev pub ExplainsText : TextFault → List ℕ → Type 0
ExplainsText e text = ExplainsTextBy ExplainsTokens e text
