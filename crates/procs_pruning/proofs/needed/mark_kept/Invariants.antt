use Rattle.std.proofs.Common.{◌≡◌, drop, map}
use Rattle.gr_base.specs.Prelude.{found_under}
use Rattle.procs_pruning.specs.Prelude.{marked_kept, placed_of, trees_seen}
use Rattle.procs_pruning.proofs.needed.mark_kept.Given as goal

abbrev pub invariant-loop-k : goal.invariant-loop-k
invariant-loop-k l =
    marked_kept (found_under l.needed) (map placed_of (drop l.k-index l.kept)) (trees_seen l.arguments)
    ≡ marked_kept (found_under l.fn.needed) (map placed_of l.kept) (trees_seen l.arguments)
