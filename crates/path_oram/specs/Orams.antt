-- How contracts see an oblivious bank: its blocks, their places, and its source of words; and what it shows. (Stefanov
-- et al., Path ORAM, CCS 2013: an access shows the path of the leaf that the block had.)
use Rattle.std.specs.Prelude.{◌≡◌, ℕ, ℤ, List, [], ◌∷◌, length, map, slice_index, slice_set}
use Rattle.rand_core.specs.Stream.{Stream, next_u64}
use Rattle.banks.specs.declared.bank.Leaves.{Leaves}
use Rattle.banks.specs.Banks.{one_leaf}
use Rattle.path_oram.specs.Places.{Places}
use Rattle.path_oram.specs.Moves.{Moves}
use Rattle.path_oram.specs.Words.{first_words, leaf_of, words_left}

pub record Oram (R : Type 0) : Type 0 where
  pub contents : List (List ℤ)
  pub width : ℕ
  pub places : Places
  pub words : R

-- the leaves that accesses to these blocks will show, from these leaves on: the leaf of each block when it is accessed
abbrev pub leaves_ahead : ℕ → List ℕ → Stream → List ℕ → List ℕ
leaves_ahead height leaves words [] = []
leaves_ahead height leaves words (block ∷ blocks) =
    slice_index leaves block ∷ leaves_ahead height
    (slice_set leaves block (leaf_of height (next_u64 words).0)) (next_u64 words).1 blocks

-- one path for each access
abbrev pub paths_ahead : Places → Stream → List ℕ → List Leaves
paths_ahead places words blocks = map one_leaf (leaves_ahead places.height places.leaves words blocks)

-- accesses to these blocks may change one bank into another: the blocks move, and each access draws a word
pub record ComesBy (before : Places) (words : Stream) (blocks : List ℕ) (after : Places) (left : Stream) : Type 0 where
  pub moves : Moves before blocks (first_words (length blocks) words) after
  pub drawn : left ≡ words_left (length blocks) words
