use Rattle.std.proofs.Common.{◌≡◌, drop}
use Rattle.src_tree.specs.Prelude.{run_of_block, block_of_all}
use Rattle.source_meaning.specs.Prelude.{KeepsFit, left_with}
use Rattle.source_meaning.proofs.executing.+executing.Given as goal

abbrev pub invariant-execute_block-loop-statement : goal.invariant-execute_block-loop-statement
invariant-execute_block-loop-statement l = record {
  left : run_of_block l.decls (block_of_all (drop l.statement-index l.statements)) (left_with l.store l.turns)
      ≡ run_of_block l.decls (block_of_all l.statements) (left_with l.fn.store l.fn.turns);
  kept : KeepsFit l.fn.store l.store;
}
