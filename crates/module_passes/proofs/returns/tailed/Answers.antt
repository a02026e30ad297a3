use Rattle.module_passes.proofs.Functions.{function_more}
use Rattle.module_passes.proofs.returns.tailed.Goals as goal

pub loop-function-preserved : goal.loop-function-preserved
loop-function-preserved c =
    function_more c.loop-function.left.items c.pop.new.self.items c.loop-function.made.items c.push.new.self.items
    c.in-Some.function c.in_ok-tailed_function.field-0 _ c.in-Some.ensures.items c.in_ok-push.ensures.items
    c.in_ok-tailed_function.ensures c.loop-function.invariant
