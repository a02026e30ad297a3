use Rattle.std.proofs.Common.{◌∙◌, sym, arith}
use Rattle.resident_alloc.specs.Prelude.{without_short}
use Rattle.resident_alloc.proofs.RoomSteps.{kept, skipped, skipped_done}
use Rattle.resident_alloc.proofs.owning.without_short.Goals as goal

pub loop-v-preserved-then-is_skipped : goal.loop-v-preserved-then-is_skipped
loop-v-preserved-then-is_skipped c =
    skipped c.args.size c.loop-v.left c.args.vs.now c.loop-v.v-index _ c.loop-v.out.items
    (without_short c.args.size c.args.n c.args.vs.now) c.loop-v-test.true
    (sym c.is_skipped.ensures ∙ c.if-is_skipped.true) c.loop-v.invariant

pub loop-v-preserved : goal.loop-v-preserved
loop-v-preserved c =
    kept c.args.size c.loop-v.left c.args.vs.now c.loop-v.v-index _ c.loop-v.out.items
    c.push.new.self.items (without_short c.args.size c.args.n c.args.vs.now) c.loop-v-test.true
    (sym c.is_skipped.ensures ∙ c.if-is_skipped.false) c.in_ok-push.ensures.items c.loop-v.invariant

pub returns : goal.returns
returns c =
    skipped_done c.args.size c.loop-v.left c.args.vs.now c.loop-v.v-index c.loop-v.out.items
    (without_short c.args.size c.args.n c.args.vs.now) (omega (arith, c.loop-v-test.false)) c.loop-v.invariant
