use Rattle.std.proofs.Common.{map}
use Rattle.procs_tree.specs.Prelude.{kept_name, parameter_of, trees_of}
use Rattle.src_procs.specs.Prelude.{binding_of, with_parameters}
use Rattle.src_procs.proofs.OwnParameters.{one_bound}
use Rattle.src_procs.proofs.own_calls.with_own_parameters.Goals as goal

pub loop-param-preserved : goal.loop-param-preserved
loop-param-preserved c =
    one_bound c.args.params.now c.loop-param.param-index c.param-item.result c.loop-param.left.items
    c.pop.new.self.items c.in-Some.argument (binding_of c.loop-param.bounds c.loop-param.made)
    (binding_of c.with_own_parameter.new.bounds c.with_own_parameter.new.made)
    (with_parameters kept_name (binding_of c.args.bounds.now c.args.made.now) (map parameter_of c.args.params.now)
    (trees_of c.args.arguments.items)) c.loop-param-test.true c.param-item.is c.in-Some.ensures.items
    c.loop-param.invariant c.in_ok-with_own_parameter-in-Some.ensures
