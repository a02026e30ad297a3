use Rattle.std.proofs.Common.{◌≡◌, drop}
use Rattle.gr_base.specs.Prelude.{found_under}
use Rattle.procs_tree.specs.Prelude.{knows_each, trees_of}
use Rattle.procs_tree.proofs.own_names.knows_each.Given as goal

abbrev pub invariant-loop-e : goal.invariant-loop-e
invariant-loop-e l =
    knows_each (found_under l.names) (trees_of (drop l.e-index l.es)) ≡ knows_each (found_under l.names) (trees_of l.es)
