-- Which of the random words determines the leaf of each access of a run: the first words belong to the blocks, in
-- order, and then each access draws one. (Stefanov et al., Path ORAM, CCS 2013: the position map, as a list over a
-- whole run instead of a map that changes.)
use Rattle.std.specs.Prelude.{◌≡◌, ℕ, ◌+◌, ◌<◌, ◌≢◌, ◌⊎◌, ◌^◌, ◌%◌, List, [], ◌∷◌, ◌++◌, length, map, reverse, slice_index, cond, ◌==◌}
use Rattle.std.specs.List.{All, range_with_len}
use Rattle.std.specs.List.Sorted.{IsPermutation}

-- the number of the word that an access to a block reads, from the blocks accessed before it, the last one first
abbrev pub read_word_number : ℕ → List ℕ → ℕ → ℕ
read_word_number count [] block = block
read_word_number count (last ∷ earlier) block =
    cond (last == block) (count + length earlier) (read_word_number count earlier block)

abbrev pub words_read_after : ℕ → List ℕ → List ℕ → List ℕ
words_read_after count earlier [] = []
words_read_after count earlier (block ∷ blocks) =
    read_word_number count earlier block ∷ words_read_after count (block ∷ earlier) blocks

-- the numbers of the words that a run reads, one for each access
unfoldable pub words_read : ℕ → List ℕ → List ℕ
words_read count blocks = words_read_after count [] blocks

-- the leaves that a run shows
abbrev pub leaves_shown : ℕ → ℕ → List ℕ → List ℕ → List ℕ
leaves_shown count height words blocks = map (λ number. slice_index words number % 2 ^ height) (words_read count blocks)

-- access number i reads its block's own word if the block wasn't accessed before, and otherwise the word that the last
-- access to it drew
pub record ReadsOwn (blocks : List ℕ) (i number : ℕ) : Type 0 where
  pub own : number ≡ slice_index blocks i
  pub never : (j : ℕ) → j < i → slice_index blocks j ≢ slice_index blocks i

pub record ReadsLast (count : ℕ) (blocks : List ℕ) (i number last : ℕ) : Type 0 where
  pub drawn : number ≡ count + last
  pub earlier : last < i
  pub same : slice_index blocks last ≡ slice_index blocks i
  pub never : (j : ℕ) → last < j → j < i → slice_index blocks j ≢ slice_index blocks i

abbrev pub ReadsWord : ℕ → List ℕ → ℕ → ℕ → Type 0
ReadsWord count blocks i number = ReadsOwn blocks i number ⊎ ((last : ℕ) × ReadsLast count blocks i number last)

-- each access reads its word
abbrev pub EachReads : Type 0
EachReads =
    (count : ℕ) (blocks : List ℕ) (i : ℕ) → i < length blocks → ReadsWord count blocks i
    (slice_index (words_read count blocks) i)

-- the words that the blocks would read next
abbrev pub words_next : ℕ → List ℕ → List ℕ
words_next count blocks = map (read_word_number count (reverse blocks)) (range_with_len 0 count)

-- each word is read by one access, or is the next one of one block
abbrev pub EachWordOnce : Type 0
EachWordOnce =
    (count : ℕ) (blocks : List ℕ) → All (λ block. block < count) blocks
    → IsPermutation (range_with_len 0 (count + length blocks)) (words_read count blocks ++ words_next count blocks)
