-- The value of a tree: the word that it represents in a run that entered a stretch of code in a given state.
-- (GhostRider, ASPLOS 2015: the symbolic values of the type system of L_T; their forms are this project's profile.)
use Rattle.std.specs.Prelude.{ℕ, ℤ, pos, negsuc}
use Rattle.gr_word.specs.Words.{applied}
use Rattle.lt_isa.specs.Machine.{State, register, slot, block_at, word_in, slot_words, slot_block}
use Rattle.symbolic_values.specs.Trees.{Value, Const, Reg, SlotAt, SlotWord, MemWord, Apply}

-- a word, read as the number of a block or of a place in a block
abbrev pub as_number : ℤ → ℕ
as_number (pos n) = n
as_number (negsuc n) = 0

-- the value of a tree at an entry
abbrev pub value_of : State → Value → ℤ
value_of entry (Const word) = word
value_of entry (Reg r) = register entry r
value_of entry (SlotAt k) = pos (slot_block (slot entry k))
value_of entry (SlotWord k place) = word_in (slot_words (slot entry k)) (as_number (value_of entry place))
value_of entry (MemWord block place) =
    word_in (block_at entry 0 (as_number (value_of entry block))) (as_number (value_of entry place))
value_of entry (Apply op a b) = applied op (value_of entry a) (value_of entry b)
