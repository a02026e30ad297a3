-- Which leaves a recursive oblivious bank shows, said of whole runs. Making it draws a word for each block, level by
-- level from the lowest; then each access draws a word for each level, from the highest. On each level the leaf is that
-- of the word which the level's own accesses read, as in a tree of its own.
-- (Stefanov et al., Path ORAM, CCS 2013, section 4.7; the order of the words is this project's profile.)
use Rattle.std.specs.Prelude.{◌≡◌, ℕ, ◌+◌, ◌-◌, ◌*◌, ◌<◌, ◌≤◌, List, [], ◌∷◌, ◌++◌, length, map, slice_index, if◌then◌else◌, nat_lt}
use Rattle.banks.specs.declared.bank.Leaves.{Leaves}
use Rattle.banks.specs.Banks.{listed_leaves}
use Rattle.path_oram.specs.Trees.{BlockTree}
use Rattle.path_oram.specs.Whole.{IsHeightFor}
use Rattle.path_oram.specs.Words.{leaf_of}
use Rattle.path_oram.specs.WordsRead.{read_word_number}
use Rattle.recursive_oram.specs.Levels.{block_above}
use Rattle.recursive_oram.specs.PositionMaps.{count_above}

-- how many blocks a level has, and how high its tree is
pub record Size : Type 0 where
  pub count : ℕ
  pub height : ℕ

abbrev pub size_of : BlockTree → Size
size_of tree = record { count = length tree.contents; height = tree.places.height }

-- The levels over this many blocks, from the lowest: each has a block for four of the level below, and the last has at
-- most four.
abbrev pub AreSizes : ℕ → List Size → Type 0
AreSizes count [] = ⊥
AreSizes count (size ∷ []) = (size.count ≡ count) × IsHeightFor count size.height × (count ≤ 4)
AreSizes count (size ∷ next ∷ above) =
    (size.count ≡ count) × IsHeightFor count size.height × (4 < count) × AreSizes (count_above count) (next ∷ above)

-- how many words are drawn before the first access
abbrev pub words_made : List Size → ℕ
words_made [] = 0
words_made (size ∷ above) = size.count + words_made above

-- The number, among all words, of word number n of a level of `count` blocks: the words that made its leaves begin with
-- number `start`; after the `made` words that made leaves, each access draws one for each of `levels` levels, and for
-- this one after those of the `above` levels above it.
abbrev pub number_among_all : (made levels start count above n : ℕ) → ℕ
number_among_all made levels start count above n =
    if nat_lt n count then start + n else made + (n - count) * levels + above

-- the leaves that an access to a block shows, the highest level's first, after accesses to others, the last one first
abbrev pub leaves_read : (made levels start : ℕ) → List ℕ → List Size → List ℕ → ℕ → List ℕ
leaves_read made levels start words [] earlier block = []
leaves_read made levels start words (size ∷ above) earlier block =
    leaves_read made levels (start + size.count) words above (map block_above earlier) (block_above block)
    ++ leaf_of size.height
    (slice_index words
    (number_among_all made levels start size.count (length above) (read_word_number size.count earlier block))) ∷ []

abbrev pub leaves_read_after : (made levels : ℕ) → List ℕ → List Size → List ℕ → List ℕ → List Leaves
leaves_read_after made levels words sizes earlier [] = []
leaves_read_after made levels words sizes earlier (block ∷ blocks) =
    listed_leaves (leaves_read made levels 0 words sizes earlier block)
    ∷ leaves_read_after made levels words sizes (block ∷ earlier) blocks

-- the leaves that accesses to these blocks show from the start on
abbrev pub rec_leaves : List ℕ → List Size → List ℕ → List Leaves
rec_leaves words sizes blocks = leaves_read_after (words_made sizes) (length sizes) words sizes [] blocks
