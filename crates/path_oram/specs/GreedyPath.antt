-- The write-back of Path ORAM. (Stefanov et al., Path ORAM, CCS 2013, Access: the path is read into the stash; then,
-- from the leaf to the root, each bucket of the path takes as many blocks as are allowed there and as fit, at most
-- four.)
use Rattle.std.specs.Prelude.{◌≡◌, ℕ, ◌≤◌, ◌≢◌, min, length, slice_index, true}
use Rattle.std.specs.List.{All, count_by}
use Rattle.std.specs.List.Sorted.{IsPermutation}
use Rattle.path_oram.specs.Places.{Places, on_path, held, hand, passes_bucket}

-- a bucket that isn't on a leaf's path
abbrev pub IsOff : ℕ → ℕ → ℕ → Type 0
IsOff height leaf number = (level : ℕ) → level ≤ height → number ≢ on_path height leaf level

-- from the places before an access to a block, whose leaf is `shown`, to the places after it. `filled`: blocks that no
-- deeper bucket took are on this level, above it, or in the stash afterwards.
-- why: by where the blocks are afterwards. `write_back_laws` states the same from the leaf to the root, bucket by
-- bucket.
pub record GreedyPath (before : Places) (block shown : ℕ) (after : Places) : Type 0 where
  pub leaf : shown ≡ slice_index before.leaves block
  pub height : after.height ≡ before.height
  pub off : (number : ℕ) → IsOff before.height shown number → held after.tree number ≡ held before.tree number
  pub same : IsPermutation (hand before shown before.height) (hand after shown after.height)
  pub eligible :
      (level : ℕ) → level ≤ after.height
      → All (λ b. passes_bucket after.height after.leaves shown level b ≡ true)
      (held after.tree (on_path after.height shown level))
  pub filled :
      (level : ℕ) → level ≤ after.height
      → length (held after.tree (on_path after.height shown level))
      ≡ min 4 (count_by (passes_bucket after.height after.leaves shown level) (hand after shown level))
