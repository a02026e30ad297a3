use Rattle.std.proofs.Common.{◌≡◌, drop}
use Rattle.src_tree.specs.Prelude.{block_of_all}
use Rattle.scalar_ranges.specs.Prelude.{after_block}
use Rattle.scalar_ranges.proofs.statements.pass_all.Given as goal

abbrev pub invariant-loop-statement : goal.invariant-loop-statement
invariant-loop-statement l =
    after_block l.decls l.known.items (block_of_all (drop l.statement-index l.statements))
    ≡ after_block l.decls l.fn.known.items (block_of_all l.statements)
