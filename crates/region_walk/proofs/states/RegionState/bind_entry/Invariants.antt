use Rattle.region_walk.specs.Prelude.{BindsEntry}
use Rattle.region_walk.proofs.states.RegionState.bind_entry.Given as goal

abbrev pub invariant-loop-slot : goal.invariant-loop-slot
invariant-loop-slot l = BindsEntry l.slot l.known l.table.values l.initial.self l.self
