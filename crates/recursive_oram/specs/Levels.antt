-- The trees of recursive Path ORAM as levels of leaves, and what their accesses show. (Stefanov et al., Path ORAM, CCS
-- 2013, section 4.7: the position map is kept in a smaller Path ORAM, and so on. Four leaves a block are this project's
-- profile.)
use Rattle.std.specs.Prelude.{ℕ, ◌/◌, ◌%◌, List, [], ◌∷◌, ◌++◌, length, slice_index, slice_set}
use Rattle.rand_core.specs.Stream.{Stream}
use Rattle.banks.specs.declared.bank.Leaves.{Leaves}
use Rattle.banks.specs.Banks.{listed_leaves}
use Rattle.path_oram.specs.Trees.{BlockTree}
use Rattle.path_oram.specs.Words.{leaf_of, word_at, words_left}

-- The leaf of a block is a word of this block of the level above, and which of its words it is.
abbrev pub block_above : ℕ → ℕ
block_above block = block / 4

abbrev pub word_above : ℕ → ℕ
word_above block = block % 4

-- a level: the height of its tree, and the leaf of each of its blocks
pub record Level : Type 0 where
  pub height : ℕ
  pub leaves : List ℕ

abbrev pub tree_level : BlockTree → Level
tree_level tree = record { height = tree.places.height; leaves = tree.places.leaves }

-- Levels are listed from the lowest on. What an access to a block of the lowest shows: the leaf of a block of each
-- level, that of the highest level first.
abbrev pub leaves_now : List Level → ℕ → List ℕ
leaves_now [] block = []
leaves_now (level ∷ above) block = leaves_now above (block_above block) ++ slice_index level.leaves block ∷ []

-- The levels after the access: these blocks have new leaves, the highest level's from the first word that is drawn.
abbrev pub levels_after : List Level → ℕ → Stream → List Level
levels_after [] block words = []
levels_after (level ∷ above) block words =
    record {
      height = level.height;
      leaves = slice_set level.leaves block (leaf_of level.height (word_at words (length above)));
    } ∷ levels_after above (block_above block) words

-- what accesses to these blocks will show, from now on and in this order
abbrev pub shown_ahead : List Level → Stream → List ℕ → List Leaves
shown_ahead levels words [] = []
shown_ahead levels words (block ∷ blocks) =
    listed_leaves (leaves_now levels block) ∷ shown_ahead (levels_after levels block words) (words_left
    (length levels) words)
    blocks
