use Rattle.bus_arbiter.specs.Prelude.{IsBest}
use Rattle.bus_arbiter.proofs.bus.Bus.next.Given as goal

abbrev pub invariant-loop-core : goal.invariant-loop-core
invariant-loop-core g l = IsBest l.self.plan l.self.cores l.from l.core l.best
