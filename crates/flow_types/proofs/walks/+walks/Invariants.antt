use Rattle.std.proofs.Common.{◌≡◌, drop}
use Rattle.gr_base.specs.Prelude.{found_under}
use Rattle.flow_types.specs.Prelude.{cause_of, walk_block}
use Rattle.src_tree.specs.Prelude.{block_of_all}
use Rattle.flow_types.proofs.walks.+walks.Given as goal

abbrev pub invariant-walk_block-loop-statement : goal.invariant-walk_block-loop-statement
invariant-walk_block-loop-statement l =
    walk_block (found_under l.names) (cause_of l.question (found_under l.names)) l.code l.number
    (block_of_all (drop l.statement-index l.statements))
    ≡ walk_block (found_under l.names) (cause_of l.question (found_under l.names)) l.code l.fn.number
    (block_of_all l.statements)
