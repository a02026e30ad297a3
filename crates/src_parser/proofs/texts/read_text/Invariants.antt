use Rattle.std.proofs.Common.{length}
use Rattle.src_parser.proofs.TextTokens.{Past, whole}
use Rattle.src_parser.proofs.texts.read_text.Given as goal

abbrev pub invariant-reading : goal.invariant-reading
invariant-reading g l = Past (λ tokens. g.R.TokenReader.HasRead tokens l.reader) (whole l.text) l.lexer

abbrev pub decreases-reading : goal.decreases-reading
decreases-reading g l = length l.lexer.rest
