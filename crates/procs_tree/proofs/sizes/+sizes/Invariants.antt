use Rattle.std.proofs.Common.{◌≡◌, ◌+◌, ◌-◌, ◌^◌, ◌≤◌, drop, map}
use Rattle.src_tree.specs.Prelude.{shown_number}
use Rattle.gr_base.specs.Prelude.{found_under}
use Rattle.procs_tree.specs.Prelude.{sizes_by, by_number, block_of_all, procedure_of, size_of_all}
use Rattle.procs_tree.proofs.sizes.+sizes.Given as goal

abbrev pub invariant-block_count-loop-statement : goal.invariant-block_count-loop-statement
invariant-block_count-loop-statement l =
    (shown_number (l.sum + size_of_all (sizes_by l.sizes (by_number (map procedure_of l.procs) l.callable (found_under l.numbers)))
    (block_of_all (drop l.statement-index l.statements)))
    ≡ shown_number (size_of_all (sizes_by l.sizes (by_number (map procedure_of l.procs) l.callable (found_under l.numbers)))
    (block_of_all l.statements))) × (l.sum ≤ 2 ^ 64 - 1)
