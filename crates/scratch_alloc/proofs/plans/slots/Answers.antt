use Rattle.std.proofs.Common.{ap, ◌∙◌, arith}
use Rattle.scratch_alloc.specs.Prelude.{slots_of}
use Rattle.scratch_alloc.proofs.SlotsBehind.{slots_more, slots_all}
use Rattle.scratch_alloc.proofs.plans.slots.Goals as goal

pub loop-i-preserved : goal.loop-i-preserved
loop-i-preserved c =
    slots_more c.as_slice-places.result.now c.loop-i.i _ c.loop-i.of_var.items c.push.new.self.items
    c.slot_behind.result
    c.loop-i-test.true c.slot_behind.ensures c.in_ok-push.ensures.items c.loop-i.invariant

pub returns : goal.returns
returns c = record {
  slots =
      slots_all c.as_slice-places.result.now c.loop-i.i c.loop-i.of_var.items
      (omega (arith, c.loop-i-test.false)) c.loop-i.invariant
      ∙ ap slots_of c.as_slice-places.ensures.value;
}
