use Rattle.std.proofs.Common.{◌≡◌, drop}
use Rattle.src_tree.specs.Prelude.{block_of_all}
use Rattle.scalar_ranges.specs.Prelude.{forgotten_block}
use Rattle.scalar_ranges.proofs.statements.+forgetting.Given as goal

abbrev pub invariant-forget_all-loop-statement : goal.invariant-forget_all-loop-statement
invariant-forget_all-loop-statement l =
    forgotten_block l.decls l.known.items (block_of_all (drop l.statement-index l.statements))
    ≡ forgotten_block l.decls l.fn.known.items (block_of_all l.statements)
