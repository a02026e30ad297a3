-- What is true of the places of the blocks at all times. (Stefanov et al., Path ORAM, CCS 2013: a block is in the stash
-- or in a bucket on the path to its leaf.)
use Rattle.std.specs.Prelude.{◌≡◌, ℕ, suc, ◌<◌, ◌≤◌, ◌^◌, [], length, slice_index}
use Rattle.std.specs.List.{All, range_with_len}
use Rattle.std.specs.List.Sorted.{IsPermutation}
use Rattle.path_oram.specs.Places.{Places, bucket_number, index_on, held, all_blocks}

-- the least height of a tree that has a leaf for each of `count` blocks
pub record IsHeightFor (count height : ℕ) : Type 0 where
  pub enough : count ≤ 2 ^ height
  pub least : (less : ℕ) → count ≤ 2 ^ less → height ≤ less

-- each block is stored once, in the stash or in a bucket of its leaf's path
pub record IsWhole (p : Places) : Type 0 where
  pub height : IsHeightFor (length p.leaves) p.height
  pub leaves : All (λ leaf. leaf < 2 ^ p.height) p.leaves
  pub buckets : length p.tree ≡ 2 ^ suc p.height
  pub unused : held p.tree 0 ≡ []
  pub room : All (λ bucket. length bucket ≤ 4) p.tree
  pub once : IsPermutation (range_with_len 0 (length p.leaves)) (all_blocks p.stash p.tree)
  pub placed :
      (level index : ℕ) → level ≤ p.height → index < 2 ^ level
      → All (λ block. index_on p.height (slice_index p.leaves block) level ≡ index)
      (held p.tree (bucket_number level index))
