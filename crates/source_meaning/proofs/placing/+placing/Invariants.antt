use Rattle.std.proofs.Common.{◌≡◌, drop}
use Rattle.src_tree.specs.Prelude.{block_of_all}
use Rattle.source_meaning.specs.Prelude.{placed_block, actions_of_all, actions_joined}
use Rattle.source_meaning.proofs.placing.+placing.Given as goal

abbrev pub invariant-place_block-loop-statement : goal.invariant-place_block-loop-statement
invariant-place_block-loop-statement l =
    actions_joined (actions_of_all l.steps.items)
    (placed_block l.decls (block_of_all (drop l.statement-index l.statements)))
    ≡ placed_block l.decls (block_of_all l.statements)
