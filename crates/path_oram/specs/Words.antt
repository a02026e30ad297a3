-- The words that a source of random words will give, as a list. Nothing is stated about chance: what is proved holds
-- for all words. (Path ORAM, Stefanov et al., CCS 2013, in this project's profile.)
use Rattle.std.specs.Prelude.{ℕ, zero, suc, ◌%◌, ◌^◌, List, [], ◌∷◌}
use Rattle.rand_core.specs.Stream.{Stream, next_u64}

-- the first `count` words, and what is left after them
abbrev pub first_words : ℕ → Stream → List ℕ
first_words zero words = []
first_words (suc count) words = (next_u64 words).0 ∷ first_words count (next_u64 words).1

abbrev pub words_left : ℕ → Stream → Stream
words_left zero words = words
words_left (suc count) words = words_left count (next_u64 words).1

-- word number k, counted from 0
abbrev pub word_at : Stream → ℕ → ℕ
word_at words k = (next_u64 (words_left k words)).0

-- the leaf that a word determines: its lowest `height` bits
abbrev pub leaf_of : ℕ → ℕ → ℕ
leaf_of height word = word % 2 ^ height
