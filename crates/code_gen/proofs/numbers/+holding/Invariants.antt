use Rattle.std.proofs.Common.{◌≡◌, ◌≤◌, drop, length}
use Rattle.src_tree.specs.Prelude.{block_of_all}
use Rattle.block_cache_gen.specs.Prelude.{BlockHasWords}
use Rattle.compiled_objects.specs.Prelude.{with_block}
use Rattle.code_gen.proofs.numbers.+holding.Given as goal

abbrev pub invariant-hold_block-loop-statement : goal.invariant-hold_block-loop-statement
invariant-hold_block-loop-statement l = record {
  held : with_block l.held.items (block_of_all (drop l.statement-index l.statements))
      ≡ with_block l.fn.held.items (block_of_all l.statements);
  few : length l.held.items ≤ 13;
  words : BlockHasWords (block_of_all (drop l.statement-index l.statements)) → BlockHasWords (block_of_all l.statements);
}
