-- The levels of the tree on which the blocks may be after a run. (Stefanov et al., Path ORAM, CCS 2013: at all times a
-- block is in the stash or in a bucket on its leaf's path. Which of several blocks that may move does move isn't
-- determined.)
use Rattle.std.specs.Prelude.{◌≡◌, ℕ, ◌<◌, ◌≤◌, List, length, map, take, drop, Option, Some, None, Contains, slice_index, slice_index_or}
use Rattle.path_oram.specs.Places.{Places, held, on_path, first_places}
use Rattle.path_oram.specs.Moves.{Moves}
use Rattle.path_oram.specs.Words.{leaf_of}

-- a block is on a level of its leaf's path, or in the stash
abbrev pub StandsOn : Places → ℕ → Option ℕ → Type 0
StandsOn places block None = Contains places.stash block
StandsOn places block (Some level) =
    (level ≤ places.height)
    × Contains (held places.tree (on_path places.height (slice_index places.leaves block) level)) block

-- each block is on its level
pub record AreLevels (places : Places) (levels : List (Option ℕ)) : Type 0 where
  pub count : length levels ≡ length places.leaves
  pub each : (block : ℕ) → block < length places.leaves → StandsOn places block (slice_index_or levels block None)

-- the places before the first access, with the leaves that these words determine
abbrev pub places_from : ℕ → ℕ → List ℕ → Places
places_from count height words = first_places height (map (leaf_of height) (take count words))

-- The first words determine the leaves, and each access draws the next word. The levels are those of places to which
-- the accesses may lead.
pub record Settles (count height : ℕ) (blocks words : List ℕ) (levels : List (Option ℕ)) : Type 0 where
  pub places : Places
  pub moves : Moves (places_from count height words) blocks (drop count words) places
  pub stand : AreLevels places levels
