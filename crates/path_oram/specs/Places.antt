-- The tree of Path ORAM with its stash and its position map, and the buckets of a path. (Stefanov et al., Path ORAM,
-- CCS 2013: tree, bucket, stash, position map, P(x).)
use Rattle.std.specs.Prelude.{ℕ, zero, suc, ◌+◌, ◌-◌, ◌/◌, ◌^◌, List, [], ◌++◌, length, replicate, slice_index, slice_index_or, Bool, ◌==◌}
use Rattle.std.specs.List.{flat_map, range_with_len}

-- where the blocks are: the height of the tree, each block's leaf, the buckets by their numbers, and the stash
pub record Places : Type 0 where
  pub height : ℕ
  pub leaves : List ℕ
  pub tree : List (List ℕ)
  pub stash : List ℕ

-- the number of a bucket: the root is number 1, and number 0 isn't a bucket
abbrev pub bucket_number : ℕ → ℕ → ℕ
bucket_number level index = 2 ^ level + index

-- the bucket of a level through which the path of a leaf passes, counted from the left
unfoldable pub index_on : ℕ → ℕ → ℕ → ℕ
index_on height leaf level = leaf / 2 ^ (height - level)

-- the number of the bucket of a leaf's path on a level
unfoldable pub on_path : ℕ → ℕ → ℕ → ℕ
on_path height leaf level = bucket_number level (index_on height leaf level)

-- the blocks of a bucket
abbrev pub held : List (List ℕ) → ℕ → List ℕ
held tree number = slice_index_or tree number []

-- the blocks in the buckets of a path on the first `levels` levels from the root
abbrev pub path_blocks : (ℕ → ℕ) → List (List ℕ) → ℕ → List ℕ
path_blocks path tree zero = []
path_blocks path tree (suc levels) = path_blocks path tree levels ++ held tree (path levels)

-- the hand of a leaf: the blocks in the stash and in the buckets of its path down to a level
abbrev pub hand : Places → ℕ → ℕ → List ℕ
hand places leaf level = places.stash ++ path_blocks (on_path places.height leaf) places.tree (suc level)

-- the blocks in the stash and in all buckets
abbrev pub all_blocks : List ℕ → List (List ℕ) → List ℕ
all_blocks stash tree = stash ++ flat_map (λ bucket. bucket) tree

-- a block's own path passes through the bucket of a leaf's path on a level
abbrev pub passes_bucket : ℕ → List ℕ → ℕ → ℕ → ℕ → Bool
passes_bucket height leaves leaf level block = index_on height (slice_index leaves block) level == index_on height leaf
    level

-- before the first access all blocks are in the stash, and the buckets are empty
abbrev pub first_places : ℕ → List ℕ → Places
first_places height leaves = record {
  height = height;
  leaves = leaves;
  tree = replicate (2 ^ suc height) [];
  stash = range_with_len 0 (length leaves);
}
