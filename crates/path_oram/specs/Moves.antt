-- Where the blocks go in accesses in sequence. (Stefanov et al., Path ORAM, CCS 2013, Access: the block gets a fresh
-- leaf, and its path is written back.)
use Rattle.std.specs.Prelude.{◌≡◌, ℕ, List, [], ◌∷◌, slice_index, slice_set}
use Rattle.path_oram.specs.Places.{Places}
use Rattle.path_oram.specs.GreedyPath.{GreedyPath}
use Rattle.path_oram.specs.Words.{leaf_of}

-- an access to a block whose leaf was `old` and is `new` afterwards
pub record MovesTo (before : Places) (block old new : ℕ) (after : Places) : Type 0 where
  pub path : GreedyPath before block old after
  pub leaves : after.leaves ≡ slice_set before.leaves block new

-- an access to a block for which this word was drawn
pub record MovesBy (before : Places) (block word : ℕ) (after : Places) : Type 0 where
  pub path : GreedyPath before block (slice_index before.leaves block) after
  pub leaves : after.leaves ≡ slice_set before.leaves block (leaf_of before.height word)

-- accesses to these blocks in order, each with the next of these words
pub data Moves : Places → List ℕ → List ℕ → Places → Type 0 where
  Stays : (places : Places) → Moves places [] [] places
  Then : (before : Places) (block word : ℕ) (between : Places) (blocks words : List ℕ) (after : Places)
      → MovesBy before block word between → Moves between blocks words after
      → Moves before (block ∷ blocks) (word ∷ words) after
