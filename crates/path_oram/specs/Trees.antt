-- A tree of Path ORAM with the words of its blocks, without a position map. (Stefanov et al., Path ORAM, CCS 2013: each
-- block is in the tree or in the stash, with its leaf.)
use Rattle.std.specs.Prelude.{◌≡◌, ℕ, ℤ, List, length}
use Rattle.path_oram.specs.Places.{Places}
use Rattle.path_oram.specs.Whole.{IsWhole}

-- how contracts see a tree: the blocks, the number of words of each, and where they are
pub record BlockTree : Type 0 where
  pub contents : List (List ℤ)
  pub width : ℕ
  pub places : Places

-- what is true of every tree: there is a leaf for each block, and each block is stored once, on its path
pub record IsTree (t : BlockTree) : Type 0 where
  pub count : length t.contents ≡ length t.places.leaves
  pub whole : IsWhole t.places
