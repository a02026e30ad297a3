-- What an access has made of the trees above one. For the contract of a private function, and for proofs.
use Rattle.std.specs.Prelude.{◌≡◌, ℕ, suc, ◌^◌, ◌<◌, List, ◌∷◌, length, slice_index, slice_set}
use Rattle.rand_core.specs.Stream.{Stream}
use Rattle.banks.specs.declared.bank.Leaves.{Leaves}
use Rattle.banks.specs.Banks.{listed_leaves}
use Rattle.path_oram.specs.Trees.{BlockTree}
use Rattle.path_oram.specs.Words.{leaf_of, word_at, words_left}
use Rattle.recursive_oram.specs.Levels.{block_above, leaves_now}
use Rattle.recursive_oram.specs.PositionMaps.{IsPositionMap}
use Rattle.recursive_oram.specs.RecursiveOrams.{LeadsEach, levels_of}

-- A block of the tree below had one leaf and gets another, by the word after those that the trees above draw; these
-- keep it now, and what all have shown is listed.
pub record IsDescent (below : BlockTree) (above others : List BlockTree) (plain : List ℕ) (words left : Stream)
    (block was becomes : ℕ) (shown : Leaves) : Type 0 where
  pub old : was ≡ slice_index below.places.leaves block
  pub new : becomes ≡ leaf_of below.places.height (word_at words (length above))
  pub small : becomes < 2 ^ below.places.height
  pub map : IsPositionMap (slice_set below.places.leaves block becomes) others plain
  pub led : LeadsEach above (block_above block) words others
  pub listing : shown ≡ listed_leaves (leaves_now (levels_of (below ∷ above)) block)
  pub drawn : left ≡ words_left (suc (length above)) words
