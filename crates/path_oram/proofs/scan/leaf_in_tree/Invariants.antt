use Rattle.std.proofs.Common.{ℕ, ◌<◌}
use Rattle.std.specs.Prelude.{Contains}
use Rattle.path_oram.specs.Prelude.{held, tree_blocks}
use Rattle.path_oram.proofs.scan.leaf_in_tree.Given as goal

-- the buckets before `number` don't hold the block
abbrev pub invariant-loop-number : goal.invariant-loop-number
invariant-loop-number l = (k : ℕ) → k < l.number → Contains (held (tree_blocks l.tree) k) l.block → ⊥
