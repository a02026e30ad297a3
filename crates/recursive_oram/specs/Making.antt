-- How far the trees of a bank have been made. For the contract of a private function, and for proofs.
use Rattle.std.specs.Prelude.{◌≡◌, ◌-◌, ◌^◌, ◌≤◌, ℕ, List, ◌∷◌, ◌++◌, length, map}
use Rattle.rand_core.specs.Stream.{Stream}
use Rattle.path_oram.specs.Trees.{BlockTree}
use Rattle.path_oram.specs.Words.{words_left}
use Rattle.recursive_oram.specs.FirstTrees.{AreFirst}
use Rattle.recursive_oram.specs.PositionMaps.{IsPositionMap}
use Rattle.recursive_oram.specs.RecLeaves.{size_of, words_made}

-- these trees keep all leaves but the last ones
pub record IsMaking (words : Stream) (tree : BlockTree) (above : List BlockTree) (last : List ℕ)
    (left : Stream) : Type 0 where
  pub keeps : (others : List BlockTree) (plain : List ℕ) → IsPositionMap last others plain
      → IsPositionMap tree.places.leaves (above ++ others) plain
  pub few : length last ≤ 4 ^ (6 - length above)
  pub most : length above ≤ 5
  pub made : AreFirst words 0 (tree ∷ above)
  pub drawn : left ≡ words_left (words_made (map size_of (tree ∷ above))) words
