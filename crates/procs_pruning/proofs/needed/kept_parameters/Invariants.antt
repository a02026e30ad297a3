use Rattle.std.proofs.Common.{◌≡◌, ◌++◌, drop, map}
use Rattle.gr_base.specs.Prelude.{found_under}
use Rattle.procs_tree.specs.Prelude.{parameter_of}
use Rattle.procs_pruning.specs.Prelude.{kept_from, placed_of}
use Rattle.procs_pruning.proofs.needed.kept_parameters.Given as goal

abbrev pub invariant-loop-i : goal.invariant-loop-i
invariant-loop-i l =
    map placed_of l.kept.items ++ kept_from (found_under l.needed) l.i (map parameter_of (drop l.i l.params))
    ≡ kept_from (found_under l.needed) 0 (map parameter_of l.params)
