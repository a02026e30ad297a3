use Rattle.std.proofs.Common.{◌∙◌, sym}
use Rattle.resident_alloc.specs.Prelude.{left_out}
use Rattle.resident_alloc.proofs.RoomSteps.{left_out_passed, left_out_pushed}
use Rattle.resident_alloc.proofs.sharing.left_out.Goals as goal

pub loop-v-preserved-then-is_left_out : goal.loop-v-preserved-then-is_left_out
loop-v-preserved-then-is_left_out c =
    left_out_pushed c.args.class c.loop-v.left c.args.vs.now c.loop-v.v-index _ c.loop-v.out.items
    c.push.new.self.items (left_out c.args.class c.args.room c.args.vs.now) c.loop-v-test.true
    (sym c.is_left_out.ensures ∙ c.if-is_left_out.true) c.in_ok-push.ensures.items c.loop-v.invariant

pub loop-v-preserved : goal.loop-v-preserved
loop-v-preserved c =
    left_out_passed c.args.class c.loop-v.left c.room_behind-left.result c.args.vs.now c.loop-v.v-index _
    c.loop-v.out.items (left_out c.args.class c.args.room c.args.vs.now) c.loop-v-test.true
    (sym c.is_left_out.ensures ∙ c.if-is_left_out.false) c.room_behind-left.ensures.left c.loop-v.invariant
