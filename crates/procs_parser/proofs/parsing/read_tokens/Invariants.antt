use Rattle.std.proofs.Common.{take}
use Rattle.src_parser.specs.Prelude.{ReadsTo}
use Rattle.procs_parser.specs.Prelude.{taken, state_of}
use Rattle.procs_parser.proofs.parsing.read_tokens.Given as goal

abbrev pub invariant-loop-token : goal.invariant-loop-token
invariant-loop-token l = ReadsTo taken (state_of l.fn.state) (take l.token-index l.tokens) (state_of l.state)
