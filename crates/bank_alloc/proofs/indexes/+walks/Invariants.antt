use Rattle.std.proofs.Common.{◌≡◌, ℕ, List, drop}
use Rattle.std.specs.Prelude.{◌||◌}
use Rattle.src_tree.specs.Prelude.{block_of_all}
use Rattle.bank_alloc.specs.Prelude.{secret_index_in_block, is_member}
use Rattle.gr_base.specs.Prelude.{found_under}
use Rattle.bank_alloc.proofs.indexes.+walks.Given as goal

abbrev pub invariant-walk_block-loop-statement : goal.invariant-walk_block-loop-statement
invariant-walk_block-loop-statement l =
    (name : List ℕ)
    → (is_member l.indexed name
    || secret_index_in_block (found_under l.names) name (block_of_all (drop l.statement-index l.statements)))
    ≡ (is_member l.fn.indexed name || secret_index_in_block (found_under l.names) name (block_of_all l.statements))
