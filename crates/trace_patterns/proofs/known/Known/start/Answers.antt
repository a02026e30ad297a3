use Rattle.std.proofs.Common.{refl}
use Rattle.trace_patterns.specs.Prelude.{marks, claims, start_known}
use Rattle.trace_patterns.proofs.known.Known.start.Goals as goal

pub returns : goal.returns
unfolding marks claims start_known
returns c = refl
