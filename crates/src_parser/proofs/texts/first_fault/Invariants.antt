use Rattle.std.proofs.Common.{length}
use Rattle.src_parser.proofs.TextTokens.{Past, Any}
use Rattle.src_parser.proofs.texts.first_fault.Given as goal

abbrev pub invariant-skipping : goal.invariant-skipping
invariant-skipping l = Past Any l.fn.lexer l.lexer

abbrev pub decreases-skipping : goal.decreases-skipping
decreases-skipping l = length l.lexer.rest
