use Rattle.region_walk.specs.Prelude.{HoldsEntry}
use Rattle.region_walk.proofs.states.RegionState.hold_entry.Given as goal

abbrev pub invariant-loop-register : goal.invariant-loop-register
invariant-loop-register l = HoldsEntry l.register l.known l.table.values l.initial.self l.self
