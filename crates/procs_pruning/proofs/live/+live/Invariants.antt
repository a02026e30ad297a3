use Rattle.std.proofs.Common.{◌≡◌, drop, map}
use Rattle.gr_base.specs.Prelude.{found_under}
use Rattle.procs_tree.specs.Prelude.{sizes_by, by_number, block_of_all, procedure_of}
use Rattle.procs_pruning.specs.Prelude.{behind, pruned, live_of}
use Rattle.procs_pruning.proofs.live.+live.Given as goal

abbrev pub invariant-live_all-loop-statement : goal.invariant-live_all-loop-statement
invariant-live_all-loop-statement l =
    behind (map live_of l.all.items)
    (pruned (sizes_by l.sizes (by_number (map procedure_of l.procs) l.callable (found_under l.numbers)))
    (block_of_all (drop l.statement-index l.statements)))
    ≡ pruned (sizes_by l.sizes (by_number (map procedure_of l.procs) l.callable (found_under l.numbers)))
    (block_of_all l.statements)
