-- How trees keep the leaves of the trees below them. (Stefanov et al., Path ORAM, CCS 2013, section 4.7, with four
-- leaves a block.)
use Rattle.std.specs.Prelude.{◌≡◌, ℕ, ◌+◌, ◌/◌, ◌<◌, ◌≤◌, ℤ, pos, List, [], ◌∷◌, length, slice_index}
use Rattle.std.specs.List.{All}
use Rattle.lt_isa.specs.Machine.{word_in}
use Rattle.banks.specs.Banks.{block_numbered}
use Rattle.path_oram.specs.Trees.{BlockTree, IsTree}
use Rattle.recursive_oram.specs.Levels.{block_above, word_above}

-- how many blocks keep the leaves of this many
abbrev pub count_above : ℕ → ℕ
count_above count = (count + 3) / 4

-- what a tree's blocks keep for a block of the level below
abbrev pub kept_leaf : List (List ℤ) → ℕ → ℤ
kept_leaf contents block = word_in (block_numbered contents (block_above block)) (word_above block)

-- a tree keeps these leaves
pub record KeepsLeaves (leaves : List ℕ) (tree : BlockTree) : Type 0 where
  pub more : 4 < length leaves
  pub count : length tree.contents ≡ count_above (length leaves)
  pub width : tree.width ≡ 4
  pub words : All (λ block. length block ≡ 4) tree.contents
  pub each : (block : ℕ) → block < length leaves → kept_leaf tree.contents block ≡ pos (slice_index leaves block)

-- These trees keep the leaves of a level, each for the one below it, and the leaves of the last are held plainly.
abbrev pub IsPositionMap : List ℕ → List BlockTree → List ℕ → Type 0
IsPositionMap leaves [] last = (leaves ≡ last) × (length leaves ≤ 4)
IsPositionMap leaves (tree ∷ above) last =
    KeepsLeaves leaves tree × IsTree tree × IsPositionMap tree.places.leaves above last
