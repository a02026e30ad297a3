use Rattle.std.proofs.Common.{◌≡◌, ℕ, List, ◌≤◌, ◌++◌, vec_capacity}
use Rattle.path_oram.specs.Prelude.{on_path, path_blocks, poured, AllHaveLeaves, HaveLeaves, blocks_in, tree_blocks}
use Rattle.path_oram.proofs.paths.empty_path.Given as goal

-- the buckets of the path above `level` are empty
abbrev pub invariant-loop-level : goal.invariant-loop-level
invariant-loop-level l = record {
  tree : tree_blocks l.tree ≡ poured (on_path l.height l.leaf) (tree_blocks l.initial.tree) l.level;
  stash : blocks_in l.stash.items
      ≡ blocks_in l.initial.stash.items ++ path_blocks (on_path l.height l.leaf) (tree_blocks l.initial.tree) l.level;
  leaves : (leaves : List ℕ) → HaveLeaves leaves l.initial.stash.items → AllHaveLeaves leaves l.initial.tree
      → HaveLeaves leaves l.stash.items × AllHaveLeaves leaves l.tree;
  capacity : vec_capacity l.initial.stash ≤ vec_capacity l.stash;
}
