use Rattle.std.proofs.Common.{◌≡◌, List, refl, ap}
use Rattle.src_lexer.specs.declared.tokens.Token.{Token}
use Rattle.src_parser.specs.declared.errors.ParseFault.{ParseFault}
use Rattle.src_parser.proofs.OneRefusal.{one_stray, one_deeper, stray_or_deeper, stray_or_cut, deeper_or_cut}
use Rattle.procs_parser.specs.Prelude.{ExplainsFile}
use Rattle.src_parser.specs.declared.errors.ParseFault.TheVariants as error
use Rattle.procs_parser.proofs.laws.one_refusal.Goals as goal

same : (tokens : List Token) (a b : ParseFault) → ExplainsFile a tokens → ExplainsFile b tokens → a ≡ b
same tokens (error.Unexpected at) (error.Unexpected to) s t = ap error.Unexpected (one_stray s t)
same tokens (error.Unexpected at) (error.TooDeep to) s t = absurd (stray_or_deeper s t)
same tokens (error.Unexpected at) error.EndOfText s t = absurd (stray_or_cut s t)
same tokens (error.TooDeep at) (error.Unexpected to) s t = absurd (stray_or_deeper t s)
same tokens (error.TooDeep at) (error.TooDeep to) s t = ap error.TooDeep (one_deeper s t)
same tokens (error.TooDeep at) error.EndOfText s t = absurd (deeper_or_cut s t)
same tokens error.EndOfText (error.Unexpected to) s t = absurd (stray_or_cut t s)
same tokens error.EndOfText (error.TooDeep to) s t = absurd (deeper_or_cut t s)
same tokens error.EndOfText error.EndOfText s t = refl

pub returns : goal.returns
returns c = same
