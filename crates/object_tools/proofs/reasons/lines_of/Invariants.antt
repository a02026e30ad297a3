use Rattle.std.proofs.Common.{◌≡◌, length}
use Rattle.object_tools.proofs.reasons.lines_of.Given as goal

abbrev pub invariant-loop-symbol : goal.invariant-loop-symbol
invariant-loop-symbol l = length l.lines.items ≡ l.symbol-index
