use Rattle.std.proofs.Common.{◌-◌, ◌≤◌, length}
use Rattle.src_lexer.proofs.TokenByToken.{Stands}
use Rattle.src_lexer.proofs.lexer.read_from.Given as goal

abbrev pub invariant-loop-end : goal.invariant-loop-end
invariant-loop-end l = Stands l.text l.at l.end l.tokens.items × (length l.tokens.items ≤ l.most)

abbrev pub decreases-loop-end : goal.decreases-loop-end
decreases-loop-end l = length l.text - l.end
