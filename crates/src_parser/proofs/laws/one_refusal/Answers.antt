use Rattle.std.proofs.Common.{◌≡◌, List, refl, ap}
use Rattle.src_lexer.specs.declared.tokens.Token.{Token}
use Rattle.src_parser.specs.declared.errors.ParseFault.{ParseFault}
use Rattle.src_parser.specs.Prelude.{ExplainsTokens}
use Rattle.src_parser.proofs.OneRefusal.{one_stray, one_deeper, stray_or_deeper, stray_or_cut, deeper_or_cut}
use Rattle.src_parser.proofs.Places.{stray, deeper, cut}
use Rattle.src_parser.specs.declared.errors.ParseFault.TheVariants as error
use Rattle.src_parser.proofs.laws.one_refusal.Goals as goal

same : (tokens : List Token) (a b : ParseFault) → ExplainsTokens a tokens → ExplainsTokens b tokens → a ≡ b
same tokens (error.Unexpected at) (error.Unexpected to) s t = ap error.Unexpected (one_stray (stray s) (stray t))
same tokens (error.Unexpected at) (error.TooDeep to) s t = absurd (stray_or_deeper (stray s) (deeper t))
same tokens (error.Unexpected at) error.EndOfText s t = absurd (stray_or_cut (stray s) (cut t))
same tokens (error.TooDeep at) (error.Unexpected to) s t = absurd (stray_or_deeper (stray t) (deeper s))
same tokens (error.TooDeep at) (error.TooDeep to) s t = ap error.TooDeep (one_deeper (deeper s) (deeper t))
same tokens (error.TooDeep at) error.EndOfText s t = absurd (deeper_or_cut (deeper s) (cut t))
same tokens error.EndOfText (error.Unexpected to) s t = absurd (stray_or_cut (stray t) (cut s))
same tokens error.EndOfText (error.TooDeep to) s t = absurd (deeper_or_cut (deeper t) (cut s))
same tokens error.EndOfText error.EndOfText s t = refl

pub returns : goal.returns
returns c = same
