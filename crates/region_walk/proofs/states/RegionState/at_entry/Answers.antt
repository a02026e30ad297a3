use Rattle.region_walk.proofs.EntryStates.{at_entry-from}
use Rattle.region_walk.proofs.states.RegionState.at_entry.Goals as goal

pub returns : goal.returns
returns c =
    at_entry-from c.args.known.now c.args.table.now.values _ c.hold_entry.new.self c.bind_entry.new.self
    c.hold_entry.ensures c.bind_entry.ensures
