-- What every state of a run has: the machine's numbers of registers and slots, words in registers, slots and banks, and
-- banks, blocks and bound slots of the object's sizes. (This project's profile.)
use Rattle.std.specs.Prelude.{◌≡◌, ℕ, ◌<◌, ℤ, List, length, All}
use Rattle.gr_word.specs.Fitting.{AreWords}
use Rattle.lt_isa.specs.Object.{Parts, block_words, blocks_of}
use Rattle.lt_isa.specs.Machine.{Slot, Unbound, Bound, State, bank_blocks, block_at}

-- a block's words, as many as the profile gives a block
pub record IsBlock (o : Parts) (words : List ℤ) : Type 0 where
  pub size : length words ≡ block_words o
  pub all_words : AreWords words

-- a slot that is bound names a block of the object, and holds a block's words
pub record IsBound (o : Parts) (bank block : ℕ) (words : List ℤ) : Type 0 where
  pub bank_exists : bank < length o.banks
  pub block_exists : block < blocks_of o bank
  pub holds_block : IsBlock o words

abbrev pub SlotFits : Parts → Slot → Type 0
SlotFits o Unbound = Unit {0}
SlotFits o (Bound bank block words) = IsBound o bank block words

pub record IsShaped (o : Parts) (s : State) : Type 0 where
  pub register_count : length s.registers ≡ 32
  pub registers : AreWords s.registers
  pub slot_count : length s.slots ≡ 8
  pub slots : All (SlotFits o) s.slots
  pub bank_count : length s.banks ≡ length o.banks
  pub block_counts : (b : ℕ) → b < length o.banks → length (bank_blocks s b) ≡ blocks_of o b
  pub blocks : (b a : ℕ) → b < length o.banks → a < blocks_of o b → IsBlock o (block_at s b a)
