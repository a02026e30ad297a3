use Rattle.std.proofs.Common.{List, map, reverse, take, ap, ◌∙◌, arith}
use Rattle.src_tree.specs.Prelude.{shown_number}
use Rattle.procs_tree.specs.declared.trees.PStmt.{PStmt}
use Rattle.procs_tree.specs.Prelude.{Measured, block_of_all, procedure_of, size_of_all, sizes_of}
use Rattle.procs_tree.proofs.sizes.body_size.Goals as goal

pub block_size-requires-clause-sizes : goal.block_size-requires-clause-sizes
block_size-requires-clause-sizes c = let all = c.requires.all in Measured c.requires.sizes (omega (arith, all))

pub returns : goal.returns
returns c =
    c.block_size.ensures
    ∙ ap (λ (ss : List PStmt). shown_number (size_of_all
    (sizes_of (reverse (take c.args.k (map procedure_of c.args.procs.now)))) (block_of_all ss))) c.as_slice.ensures.value
