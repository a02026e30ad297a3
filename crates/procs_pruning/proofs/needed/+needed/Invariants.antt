use Rattle.std.proofs.Common.{◌≡◌, drop, map}
use Rattle.gr_base.specs.Prelude.{found_under}
use Rattle.procs_tree.specs.Prelude.{by_number, procedure_of}
use Rattle.procs_pruning.specs.Prelude.{kept_by, marked_all, bodies_of, live_block}
use Rattle.procs_pruning.proofs.needed.+needed.Given as goal

abbrev pub invariant-mark_all-loop-statement : goal.invariant-mark_all-loop-statement
invariant-mark_all-loop-statement l =
    marked_all (kept_by (bodies_of l.file.bodies.now) (by_number (map procedure_of l.file.procs.now) l.callable (found_under l.file.numbers.now)))
    (found_under l.needed) (live_block (drop l.statement-index l.statements))
    ≡ marked_all (kept_by (bodies_of l.file.bodies.now) (by_number (map procedure_of l.file.procs.now) l.callable (found_under l.file.numbers.now)))
    (found_under l.fn.needed) (live_block l.statements)
