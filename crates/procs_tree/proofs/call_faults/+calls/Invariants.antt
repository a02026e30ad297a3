use Rattle.std.proofs.Common.{◌≡◌, drop, map}
use Rattle.gr_base.specs.Prelude.{found_under}
use Rattle.procs_tree.specs.Prelude.{calls_walked_all, procedure_by_number, block_of_all, procedure_of}
use Rattle.procs_tree.proofs.call_faults.+calls.Given as goal

abbrev pub invariant-walk_block-loop-statement : goal.invariant-walk_block-loop-statement
invariant-walk_block-loop-statement l =
    calls_walked_all (procedure_by_number (map procedure_of l.procs) l.callable (found_under l.numbers)) l.n
    (block_of_all (drop l.statement-index l.statements))
    ≡ calls_walked_all (procedure_by_number (map procedure_of l.procs) l.callable (found_under l.numbers)) l.fn.n (block_of_all l.statements)
