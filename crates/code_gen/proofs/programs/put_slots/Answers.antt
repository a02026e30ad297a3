use Rattle.std.proofs.Common.{None}
use Rattle.code_gen.specs.Prelude.{slot_code}
use Rattle.code_gen.proofs.EmittedPrograms.{slots-more, slots-past}
use Rattle.code_gen.proofs.programs.put_slots.Goals as goal

pub loop-slot-preserved : goal.loop-slot-preserved
loop-slot-preserved c =
    λ last more.
    c.loop-slot.invariant last
    (slots-more (slot_code c.args.phase) c.args.blocks.now c.loop-slot.slot None c.loop-slot.out c.put_slot.new.out last
    c.loop-slot-test.true c.in_ok-put_slot.ensures more)

pub returns : goal.returns
returns c =
    c.loop-slot.invariant c.loop-slot.out
    (slots-past (slot_code c.args.phase) c.args.blocks.now c.loop-slot.slot c.loop-slot.out c.loop-slot-test.false)
