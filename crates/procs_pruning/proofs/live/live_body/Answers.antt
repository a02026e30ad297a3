use Rattle.std.proofs.Common.{List, map, reverse, take, ap, ◌∙◌}
use Rattle.procs_tree.specs.declared.trees.PStmt.{PStmt}
use Rattle.procs_tree.specs.Prelude.{block_of_all, inlined_all, inlines_of, procedure_of}
use Rattle.procs_pruning.proofs.live.live_body.Goals as goal

pub left_of-requires-clause-same : goal.left_of-requires-clause-same
left_of-requires-clause-same c = λ names next.
    c.in_ok-less.ensures names next
    ∙ (c.in_ok-body.ensures names next
    ∙ ap (λ (ss : List PStmt). inlined_all (inlines_of (reverse (take c.args.k (map procedure_of c.args.procs.now)))) names
    (block_of_all ss) next) c.as_slice.ensures.value)
