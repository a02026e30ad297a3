use Rattle.std.proofs.Common.{length}
use Rattle.lt_isa.specs.Prelude.{trace_from}
use Rattle.run_tools.specs.Prelude.{EqualSoFar, MayRead, left_to_read}
use Rattle.run_tools.proofs.comparing.compare.Given as goal

abbrev pub invariant-comparing : goal.invariant-comparing
invariant-comparing g l = record {
  first_may : MayRead l.first_trace l.first.object l.first.state;
  second_may : MayRead l.second_trace l.second.object l.second.state;
  so_far : EqualSoFar
      (trace_from l.fn.first.object l.fn.first.state l.cycles)
      (trace_from l.fn.second.object l.fn.second.state l.cycles)
      (left_to_read l.first_trace l.first.object l.first.state l.first.live)
      (left_to_read l.second_trace l.second.object l.second.state l.second.live)
      l.events l.end;
}

abbrev pub decreases-comparing : goal.decreases-comparing
decreases-comparing g l = length (left_to_read l.first_trace l.first.object l.first.state l.first.live)
