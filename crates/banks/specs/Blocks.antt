-- Words in sequence, seen as blocks of equal width (this project's profile).
use Rattle.std.specs.Prelude.{ℕ, ◌-◌, ◌*◌, ◌/◌, ℤ, pos, List, ◌++◌, length, map, take, drop, replicate}
use Rattle.std.specs.List.{range_with_len, flat_map}

-- block number `at` of some words, if a block has w of them
abbrev pub block_of_words : ℕ → List ℤ → ℕ → List ℤ
block_of_words w words at = take w (drop (at * w) words)

-- the first `count` blocks of some words
unfoldable pub cut : ℕ → ℕ → List ℤ → List (List ℤ)
cut w count words = map (block_of_words w words) (range_with_len 0 count)

-- all blocks of some words
abbrev pub in_blocks : ℕ → List ℤ → List (List ℤ)
in_blocks w words = cut w (length words / w) words

-- some words, followed by zeros up to n words
unfoldable pub filled_up : ℕ → List ℤ → List ℤ
filled_up n words = words ++ replicate (n - length words) (pos 0)

-- the words of some blocks in sequence
abbrev pub words_of_blocks : List (List ℤ) → List ℤ
words_of_blocks blocks = flat_map (λ block. block) blocks

-- how contracts see a bank: its blocks, and the number of words of each
pub record Blocks : Type 0 where
  pub contents : List (List ℤ)
  pub width : ℕ
