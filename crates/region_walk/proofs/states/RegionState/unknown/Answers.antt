use Rattle.region_walk.proofs.EntryStates.{nothing-replicate, any-replicate, nothing-size, any-size}
use Rattle.region_walk.proofs.states.RegionState.unknown.Goals as goal

pub returns-clause-registers : goal.returns-clause-registers
returns-clause-registers c = nothing-replicate c.none.result c.none.ensures

pub returns-clause-slots : goal.returns-clause-slots
returns-clause-slots c = any-replicate

pub returns-clause-register_count : goal.returns-clause-register_count
returns-clause-register_count c = nothing-size c.none.result

pub returns-clause-slot_count : goal.returns-clause-slot_count
returns-clause-slot_count c = any-size
