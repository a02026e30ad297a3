use Rattle.std.proofs.Common.{◌≡◌, ◌++◌, drop, map}
use Rattle.procs_tree.specs.Prelude.{parameter_name, parameter_of, names_seen}
use Rattle.procs_tree.proofs.own_names.with_parameters.Given as goal

abbrev pub invariant-loop-param : goal.invariant-loop-param
invariant-loop-param l =
    names_seen l.names.items ++ map parameter_name (map parameter_of (drop l.param-index l.params))
    ≡ names_seen l.fn.names.items ++ map parameter_name (map parameter_of l.params)
