use Rattle.std.proofs.Common.{arith}
use Rattle.region_walk.proofs.EntryStates.{bind-more}
use Rattle.region_walk.proofs.states.RegionState.bind_entry.Goals as goal

pub loop-slot-preserved : goal.loop-slot-preserved
loop-slot-preserved c =
    let l = c.loop-slot in
    rw c.bind.ensures (bind-more l.slot c.args.known.now c.args.table.now.values c.args.self.now l.self
    c.entry_slot.result l.invariant (omega arith) (rw (← c.bank.ensures.bank) c.entry_slot.ensures))
