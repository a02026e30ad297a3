use Rattle.std.proofs.Common.{arith}
use Rattle.region_walk.proofs.EntryStates.{hold-more}
use Rattle.region_walk.proofs.states.RegionState.hold_entry.Goals as goal

pub loop-register-preserved : goal.loop-register-preserved
loop-register-preserved c =
    let l = c.loop-register in
    rw c.hold.ensures (hold-more l.register c.args.known.now c.args.table.now.values c.args.self.now l.self
    c.entry_number.result l.invariant (omega arith) (rw (← c.is_secret.ensures) c.entry_number.ensures))
