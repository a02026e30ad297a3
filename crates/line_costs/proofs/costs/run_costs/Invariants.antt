use Rattle.std.proofs.Common.{◌≡◌, ◌-◌, IsTrue}
use Rattle.line_costs.specs.Prelude.{CountedSoFar}
use Rattle.processor.specs.declared.ends.End.TheVariants as end
use Rattle.line_costs.proofs.costs.run_costs.Given as goal

abbrev pub invariant-running : goal.invariant-running
invariant-running g l = record {
  live : IsTrue l.machine.live;
  object : l.machine.object ≡ l.fn.machine.object;
  place : l.place ≡ l.machine.state.place;
  so_far : CountedSoFar l.fn.machine.object l.fn.machine.state l.cycles l.parts l.rows l.machine.state l.costs;
  end : l.costs.end ≡ end.Spent;
}

abbrev pub decreases-running : goal.decreases-running
decreases-running g l = l.cycles - l.machine.state.cycle
