use Rattle.std.proofs.Common.{◌≡◌, take}
use Rattle.src_parser.specs.Prelude.{limits, Moves, token_kinds, reads_all, reading_of}
use Rattle.src_parser.proofs.ReadTokens.{first}
use Rattle.src_parser.proofs.lone_expressions.expression.Given as goal

abbrev pub invariant-loop-i : goal.invariant-loop-i
invariant-loop-i l =
    reads_all limits (first l.opened l.used) (token_kinds (take l.i l.tokens)) ≡ Moves (reading_of l.reading)
