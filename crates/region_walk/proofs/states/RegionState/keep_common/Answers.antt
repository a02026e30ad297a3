use Rattle.std.proofs.Common.{◌∙◌, arith, length-set}
use Rattle.region_walk.proofs.SlotEquality.{common-more, rest-more}
use Rattle.region_walk.proofs.states.RegionState.keep_common.Goals as goal

pub loop-slot-preserved : goal.loop-slot-preserved
loop-slot-preserved c =
    let l = c.loop-slot in
    let xs = c.loop-register.self.slots in
    let ys = c.args.other.now.slots in
    let zs = l.self.slots in
    record {
      done = common-more xs ys zs l.slot c.keep_common_slot.new.ours
          (omega arith) l.invariant.rest l.invariant.done c.keep_common_slot.ensures;
      rest = rest-more xs ys zs l.slot c.keep_common_slot.new.ours (omega arith) l.invariant.rest;
      size = length-set zs l.slot c.keep_common_slot.new.ours ∙ l.invariant.size;
      registers = l.invariant.registers;
    }
