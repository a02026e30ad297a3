use Rattle.std.proofs.Common.{◌≡◌, ℕ, List, ◌-◌, ◌≤◌, length, vec_capacity}
use Rattle.path_oram.specs.Prelude.{IsSettled, AllHaveLeaves, HaveLeaves, blocks_in, tree_blocks}
use Rattle.path_oram.proofs.settling.settle.Given as goal

abbrev pub invariant-loop-kept : goal.invariant-loop-kept
invariant-loop-kept l = record {
  within : l.kept ≤ length l.stash.items;
  buckets : length l.tree ≡ length l.initial.tree;
  settled : (leaves : List ℕ) → HaveLeaves leaves l.initial.stash.items
      → IsSettled l.height leaves l.leaf (tree_blocks l.initial.tree) (tree_blocks l.tree)
      (blocks_in l.initial.stash.items) (blocks_in l.stash.items) l.kept;
  stash : (leaves : List ℕ) → HaveLeaves leaves l.initial.stash.items → HaveLeaves leaves l.stash.items;
  tree : (leaves : List ℕ) → HaveLeaves leaves l.initial.stash.items → AllHaveLeaves leaves l.initial.tree
      → AllHaveLeaves leaves l.tree;
  capacity : vec_capacity l.stash ≡ vec_capacity l.initial.stash;
}

-- the slots that weren't tried yet
abbrev pub decreases-loop-kept : goal.decreases-loop-kept
decreases-loop-kept l = length l.stash.items - l.kept
