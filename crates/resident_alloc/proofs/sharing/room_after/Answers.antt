use Rattle.std.proofs.Common.{arith}
use Rattle.resident_alloc.proofs.RoomSteps.{room_more, room_all}
use Rattle.resident_alloc.proofs.sharing.room_after.Goals as goal

pub loop-v-preserved : goal.loop-v-preserved
loop-v-preserved c = (
  room_more c.args.class c.args.room c.loop-v.left c.room_behind-left.result c.args.vs.now c.loop-v.v-index _
      c.loop-v-test.true c.room_behind-left.ensures.left c.loop-v.invariant.0,
  omega (arith, c.room_behind-left.ensures.less, c.loop-v.invariant.1),
)

pub returns-clause-left : goal.returns-clause-left
returns-clause-left c =
    room_all c.args.class c.args.room c.loop-v.left c.args.vs.now c.loop-v.v-index
    (omega (arith, c.loop-v-test.false)) c.loop-v.invariant.0
