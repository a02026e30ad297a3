-- The leaf that one level shows, by the level's number.
use Rattle.std.specs.Prelude.{◌≡◌, ℕ, zero, suc, List, ◌∷◌, ◌++◌, length, map, slice_index}
use Rattle.path_oram.specs.Words.{leaf_of}
use Rattle.path_oram.specs.WordsRead.{read_word_number}
use Rattle.recursive_oram.specs.Levels.{block_above}
use Rattle.recursive_oram.specs.RecLeaves.{Size, leaves_read, number_among_all, words_made}

-- a quarter of a block's number, rounded down, for each level
abbrev pub block_on : ℕ → ℕ → ℕ
block_on zero block = block
block_on (suc level) block = block_on level (block_above block)

-- For the level with this many below it and this many above it an access shows, as entry number `length above`, the
-- leaf of the word that this level's own accesses read.
abbrev pub ShowsByLevel : Type 0
ShowsByLevel =
    (made levels : ℕ) (words : List ℕ) (below above : List Size) (size : Size) (earlier : List ℕ) (block : ℕ)
    → slice_index (leaves_read made levels 0 words (below ++ size ∷ above) earlier block) (length above)
    ≡ leaf_of size.height (slice_index words (number_among_all made levels (words_made below) size.count (length above)
    (read_word_number size.count (map (block_on (length below)) earlier) (block_on (length below) block))))
