use Rattle.std.proofs.Common.{arith}
use Rattle.resident_alloc.proofs.PlanSteps.{planned_done, planned_more}
use Rattle.resident_alloc.proofs.variables.planned_all.Goals as goal

pub loop-i-preserved : goal.loop-i-preserved
loop-i-preserved c =
    planned_more c.args.size c.args.all.now c.loop-i.i _ c.loop-i.of_all.items c.push.new.self.items c.in_ok-one.one
    c.loop-i-test.true c.in_ok-one.ensures c.in_ok-push.ensures.items c.loop-i.invariant

pub returns : goal.returns
returns c =
    planned_done c.args.size c.args.all.now c.loop-i.i c.loop-i.of_all.items (omega (arith, c.loop-i-test.false))
    c.loop-i.invariant
