-- The slots of the buckets and of the stash: they hold each block with its leaf. (Stefanov et al., Path ORAM, CCS 2013:
-- the blocks of the tree and of the stash are stored with their position.)
use Rattle.std.specs.Prelude.{◌≡◌, ◌≢◌, ℕ, List, [], ◌∷◌, ◌++◌, map, cond, ◌==◌, slice_index, slice_index_or}
use Rattle.std.specs.List.{All, flat_map, range_with_len}
use Rattle.path_oram.specs.declared.bucket.Placed.{Placed}
use Rattle.path_oram.specs.GreedyPath.{IsOff}
use Rattle.path_oram.specs.Places.{Places, held}

-- the blocks of some slots, and those of each bucket
abbrev pub blocks_in : List Placed → List ℕ
blocks_in slots = map (λ (slot : Placed). slot.block) slots

abbrev pub tree_blocks : List (List Placed) → List (List ℕ)
tree_blocks tree = map blocks_in tree

-- the slots of a bucket, and all slots
abbrev pub slots_at : List (List Placed) → ℕ → List Placed
slots_at tree number = slice_index_or tree number []

abbrev pub all_slots : List Placed → List (List Placed) → List Placed
all_slots stash tree = stash ++ flat_map (λ bucket. bucket) tree

-- the leaf of a block in some slots
abbrev pub leaf_in : List Placed → ℕ → ℕ
leaf_in [] block = 0
leaf_in (slot ∷ slots) block = cond (slot.block == block) slot.leaf (leaf_in slots block)

-- the places of `count` blocks: the leaf of each is the one in its slot
abbrev pub places_of : ℕ → ℕ → List Placed → List (List Placed) → Places
places_of count height stash tree = record {
  height = height;
  leaves = map (leaf_in (all_slots stash tree)) (range_with_len 0 count);
  tree = tree_blocks tree;
  stash = blocks_in stash;
}

-- the leaf in each slot is the one that a list has for its block, in some slots and in each bucket
abbrev pub HaveLeaves : List ℕ → List Placed → Type 0
HaveLeaves leaves slots = All (λ (slot : Placed). slot.leaf ≡ slice_index leaves slot.block) slots

abbrev pub AllHaveLeaves : List ℕ → List (List Placed) → Type 0
AllHaveLeaves leaves tree = All (HaveLeaves leaves) tree

-- a slot, with another leaf if it holds this block
abbrev pub with_leaf : ℕ → ℕ → Placed → Placed
with_leaf block leaf slot = record { block = slot.block; leaf = cond (slot.block == block) leaf slot.leaf }

-- before the first access each block is in the stash, with its leaf
abbrev pub slot_of : List ℕ → ℕ → Placed
slot_of leaves block = record { block = block; leaf = slice_index leaves block }

-- a block is in no bucket off a path
abbrev pub IsNotBeside : ℕ → ℕ → List (List ℕ) → ℕ → Type 0
IsNotBeside height leaf tree block =
    (number : ℕ) → IsOff height leaf number → All (λ other. other ≢ block) (held tree number)
