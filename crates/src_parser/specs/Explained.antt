-- What each error of the parser says about the tokens. (This project's profile.)
use Rattle.std.specs.Prelude.{List}
use Rattle.src_lexer.specs.declared.tokens.Token.{Token}
use Rattle.src_parser.specs.declared.errors.ParseFault.{ParseFault}
use Rattle.src_parser.specs.Refusals.{Unexpected, TooDeep, CutShort}
use Rattle.src_parser.specs.declared.errors.ParseFault.TheVariants as error

abbrev pub ExplainsTokens : ParseFault → List Token → Type 0
ExplainsTokens (error.Unexpected at) tokens = Unexpected tokens at
ExplainsTokens error.EndOfText tokens = CutShort tokens
ExplainsTokens (error.TooDeep at) tokens = TooDeep tokens at
