use Rattle.std.proofs.Common.{◌≡◌, drop}
use Rattle.gr_base.specs.Prelude.{found_under}
use Rattle.procs_tree.specs.Prelude.{knows_block, block_of_all}
use Rattle.procs_tree.proofs.own_names.+known.Given as goal

abbrev pub invariant-knows_block-loop-statement : goal.invariant-knows_block-loop-statement
invariant-knows_block-loop-statement l =
    knows_block (found_under l.names) (block_of_all (drop l.statement-index l.statements))
    ≡ knows_block (found_under l.names) (block_of_all l.statements)
