use Rattle.std.proofs.Common.{◌≡◌, drop, map, reverse}
use Rattle.procs_tree.specs.Prelude.{kept_name, parameter_of, trees_of}
use Rattle.src_procs.specs.Prelude.{with_parameters, binding_of}
use Rattle.src_procs.proofs.own_calls.with_own_parameters.Given as goal

abbrev pub invariant-loop-param : goal.invariant-loop-param
invariant-loop-param l =
    with_parameters kept_name (binding_of l.bounds l.made) (map parameter_of (drop l.param-index l.params))
    (trees_of (reverse l.left.items))
    ≡ with_parameters kept_name (binding_of l.fn.bounds l.fn.made) (map parameter_of l.params)
    (trees_of l.fn.arguments.items)
