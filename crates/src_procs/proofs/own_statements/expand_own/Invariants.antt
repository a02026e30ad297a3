use Rattle.std.proofs.Common.{◌≡◌}
use Rattle.procs_tree.specs.Prelude.{block_of_all}
use Rattle.src_procs.specs.Prelude.{expanded, finished, own_held, owns_all}
use Rattle.src_procs.proofs.own_statements.expand_own.Given as goal

abbrev pub invariant-loop : goal.invariant-loop
invariant-loop l =
    finished (owns_all l.waiting.items) (own_held l.file.procs.now l.made)
    ≡ expanded (block_of_all l.fn.body.items) (own_held l.file.procs.now l.fn.made)
