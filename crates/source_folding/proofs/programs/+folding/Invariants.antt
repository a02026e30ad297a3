use Rattle.std.proofs.Common.{◌≡◌, drop}
use Rattle.src_tree.specs.Prelude.{block_of_all}
use Rattle.source_folding.specs.Prelude.{folded_block, BlockNumbersFit}
use Rattle.source_folding.proofs.Joined.{joined}
use Rattle.source_folding.proofs.programs.+folding.Given as goal

abbrev pub invariant-folded_block-loop-statement : goal.invariant-folded_block-loop-statement
invariant-folded_block-loop-statement l = record {
  folded :
      joined (block_of_all l.made.items) (folded_block (block_of_all (drop l.statement-index l.statements)))
      ≡ folded_block (block_of_all l.statements);
  numbers : BlockNumbersFit (block_of_all (drop l.statement-index l.statements))
      → BlockNumbersFit (block_of_all l.statements);
}
