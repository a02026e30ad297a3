-- A memory: the words of each variable, by the variable's number. A scalar has one word.
use Rattle.std.specs.Prelude.{ℕ, ◌==◌, ℤ, pos, if◌then◌else◌, List, [], ◌∷◌, slice_index_or, slice_set}
use Rattle.src_tree.specs.Meaning.{wrapped}

abbrev pub Memory : Type 0
Memory = ℕ → List ℤ

-- the word of a scalar
abbrev pub first_word : List ℤ → ℤ
first_word words = slice_index_or words 0 (pos 0)

-- the word at an index, which is unsigned and taken modulo the number of words
abbrev pub word_at : List ℤ → ℤ → ℤ
word_at words index = slice_index_or words (wrapped words index) (pos 0)

-- words of which the one at an index is replaced
abbrev pub with_word : List ℤ → ℤ → ℤ → List ℤ
with_word words index word = slice_set words (wrapped words index) word

-- a memory in which variable number k has other words
abbrev pub with_words : Memory → ℕ → List ℤ → Memory
with_words memory k words j = if j == k then words else memory j

abbrev pub with_scalar : Memory → ℕ → ℤ → Memory
with_scalar memory k word = with_words memory k (word ∷ [])

abbrev pub with_element : Memory → ℕ → ℤ → ℤ → Memory
with_element memory k index word = with_words memory k (with_word (memory k) index word)
