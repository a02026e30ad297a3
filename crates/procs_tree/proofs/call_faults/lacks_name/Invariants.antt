use Rattle.std.proofs.Common.{◌≡◌, drop, map}
use Rattle.procs_tree.specs.Prelude.{lacks_name, parameter_of, trees_of}
use Rattle.procs_tree.proofs.call_faults.lacks_name.Given as goal

abbrev pub invariant-loop-i : goal.invariant-loop-i
invariant-loop-i l =
    lacks_name (map parameter_of (drop l.i l.params)) (trees_of (drop l.i l.arguments))
    ≡ lacks_name (map parameter_of l.params) (trees_of l.arguments)
