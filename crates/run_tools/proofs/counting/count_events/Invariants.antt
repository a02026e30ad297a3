use Rattle.std.proofs.Common.{◌≡◌, length}
use Rattle.lt_isa.specs.Prelude.{trace_from}
use Rattle.run_tools.specs.Prelude.{CountedSoFar, MayRead, left_to_read}
use Rattle.run_tools.proofs.counting.count_events.Given as goal

abbrev pub invariant-counting : goal.invariant-counting
invariant-counting g l = record {
  may_read : MayRead l.trace l.machine.object l.machine.state;
  so_far : CountedSoFar
      (trace_from l.fn.machine.object l.fn.machine.state l.cycles)
      (left_to_read l.trace l.machine.object l.machine.state l.machine.live)
      l.counts;
  banks : length l.counts.orams.items ≡ l.banks;
}

abbrev pub decreases-counting : goal.decreases-counting
decreases-counting g l = length (left_to_read l.trace l.machine.object l.machine.state l.machine.live)
