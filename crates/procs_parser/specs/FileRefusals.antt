-- Why tokens aren't a file with procedures: the three errors of the parser, each at its first place (this project's
-- profile).
use Rattle.std.specs.Prelude.{List}
use Rattle.src_lexer.specs.declared.tokens.Token.{Token}
use Rattle.src_parser.specs.declared.errors.ParseFault.{ParseFault}
use Rattle.src_parser.specs.Tokenwise.{Stray, Deeper, Cut}
use Rattle.procs_parser.specs.FileGrammar.{SpellsFile}
use Rattle.src_parser.specs.declared.errors.ParseFault.TheVariants as error

abbrev pub ExplainsFile : ParseFault → List Token → Type 0
ExplainsFile (error.Unexpected at) tokens = Stray SpellsFile tokens at
ExplainsFile error.EndOfText tokens = Cut SpellsFile tokens
ExplainsFile (error.TooDeep at) tokens = Deeper SpellsFile tokens at
