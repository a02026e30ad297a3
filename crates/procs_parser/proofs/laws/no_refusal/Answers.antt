use Rattle.std.proofs.Common.{List}
use Rattle.src_lexer.specs.declared.tokens.Token.{Token}
use Rattle.src_parser.specs.Prelude.{limits, token_kinds}
use Rattle.src_parser.specs.declared.errors.ParseFault.{ParseFault}
use Rattle.src_parser.proofs.Tokenwise.{next_begins}
use Rattle.procs_tree.specs.Prelude.{File}
use Rattle.procs_parser.specs.Prelude.{SpellsFile, ExplainsFile}
use Rattle.procs_parser.proofs.FileLaws.{file_laws}
use Rattle.src_parser.specs.declared.errors.ParseFault.TheVariants as error
use Rattle.procs_parser.proofs.laws.no_refusal.Goals as goal

none : (tokens : List Token) (f : File) (e : ParseFault) → SpellsFile limits (token_kinds tokens) f
    → ExplainsFile e tokens → ⊥
none tokens f (error.Unexpected at) s h =
    h.none limits (next_begins file_laws tokens h.before h.after h.token f h.split s)
none tokens f error.EndOfText s h = h.none f s
none tokens f (error.TooDeep at) s h = h.none (next_begins file_laws tokens h.before h.after h.token f h.split s)

pub returns : goal.returns
returns c = none
