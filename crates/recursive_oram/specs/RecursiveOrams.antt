-- What is seen of a recursive oblivious bank, and how an access leads through its trees.
use Rattle.std.specs.Prelude.{ℕ, List, [], ◌∷◌, length, map}
use Rattle.rand_core.specs.Stream.{Stream}
use Rattle.path_oram.specs.Moves.{MovesBy}
use Rattle.path_oram.specs.Trees.{BlockTree}
use Rattle.path_oram.specs.Words.{word_at}
use Rattle.recursive_oram.specs.Levels.{Level, block_above, tree_level}

-- the tree of the blocks, those above it, the leaves of the last one, and the source of words
pub record Recursive (R : Type 0) : Type 0 where
  pub tree : BlockTree
  pub above : List BlockTree
  pub last : List ℕ
  pub words : R

-- all trees, from the lowest
abbrev pub all_trees : {R : Type 0} → Recursive R → List BlockTree
all_trees oram = oram.tree ∷ oram.above

abbrev pub levels_of : List BlockTree → List Level
levels_of trees = map tree_level trees

-- An access to a block of the lowest of these trees leads each of them to one after it, by the greedy write-back on the
-- path of the leaf before, with the leaf that the level's word makes.
abbrev pub LeadsEach : List BlockTree → ℕ → Stream → List BlockTree → Type 0
LeadsEach [] block words [] = Unit {0}
LeadsEach [] block words (after ∷ others) = ⊥
LeadsEach (before ∷ above) block words [] = ⊥
LeadsEach (before ∷ above) block words (after ∷ others) =
    MovesBy before.places block (word_at words (length above)) after.places
    × LeadsEach above (block_above block) words others
