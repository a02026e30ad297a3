use Rattle.std.proofs.Common.{◌-◌, ◌≤◌, length, take}
use Rattle.src_parser.specs.Prelude.{state_of, advanced, ReadsTo}
use Rattle.src_parser.proofs.parsing.read_tokens.Given as goal

abbrev pub invariant-loop-at : goal.invariant-loop-at
invariant-loop-at l =
    (l.at ≤ length l.tokens)
    × ReadsTo advanced (state_of l.fn.state) (take l.at l.tokens) (state_of l.state)

abbrev pub decreases-loop-at : goal.decreases-loop-at
decreases-loop-at l = length l.tokens - l.at
