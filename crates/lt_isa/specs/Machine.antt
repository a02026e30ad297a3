-- States of the machine, and what an observer of its memory bus sees.
-- (GhostRider, ASPLOS 2015: the scratchpad and three kinds of bank; what is seen of each kind is this project's own
-- choice.)
use Rattle.std.specs.Prelude.{ℕ, if◌then◌else◌, ℤ, pos, List, [], slice_index_or, slice_set}
use Rattle.lt_isa.specs.Object.{is_ram, is_eram}

-- a slot of the scratchpad: unbound, or bound to a block of a bank, with the words that it holds for that block
pub data Slot : Type 0 where
  Unbound : Slot
  Bound : (bank block : ℕ) (words : List ℤ) → Slot

-- the block to which a slot is bound, and the words that it holds; block 0 and no words if the slot is unbound
abbrev pub slot_block : Slot → ℕ
slot_block Unbound = 0
slot_block (Bound bank block words) = block

abbrev pub slot_words : Slot → List ℤ
slot_words Unbound = []
slot_words (Bound bank block words) = words

-- a bank is a list of blocks, and a block a list of words
pub record State : Type 0 where
  pub registers : List ℤ
  pub slots : List Slot
  pub banks : List (List (List ℤ))
  pub place : ℕ
  pub cycle : ℕ

-- what is in register r, in slot k and in block a of bank b
abbrev pub register : State → ℕ → ℤ
register s r = slice_index_or s.registers r (pos 0)

abbrev pub slot : State → ℕ → Slot
slot s k = slice_index_or s.slots k Unbound

abbrev pub bank_blocks : State → ℕ → List (List ℤ)
bank_blocks s b = slice_index_or s.banks b []

abbrev pub block_at : State → ℕ → ℕ → List ℤ
block_at s b a = slice_index_or (bank_blocks s b) a []

-- word number i of a block
abbrev pub word_in : List ℤ → ℕ → ℤ
word_in words i = slice_index_or words i (pos 0)

-- the state with another register, slot or block
abbrev pub set_register : State → ℕ → ℤ → State
set_register s r word = record s { registers = slice_set s.registers r word }

abbrev pub set_slot : State → ℕ → Slot → State
set_slot s k bound = record s { slots = slice_set s.slots k bound }

abbrev pub set_block : State → ℕ → ℕ → List ℤ → State
set_block s b a words = record s { banks = slice_set s.banks b (slice_set (bank_blocks s b) a words) }

-- What the observer sees: of an access to plain memory the block's number and its words, to encrypted memory the
-- block's number, to an oblivious bank only the bank's number; and the halt.
pub data Observed : Type 0 where
  RamRead : (block : ℕ) (words : List ℤ) → Observed
  RamWrite : (block : ℕ) (words : List ℤ) → Observed
  EncRead : (block : ℕ) → Observed
  EncWrite : (block : ℕ) → Observed
  Oram : (bank : ℕ) → Observed
  Halted : Observed

abbrev pub read_event : ℕ → ℕ → List ℤ → Observed
read_event b a words = if is_ram b then RamRead a words else (if is_eram b then EncRead a else Oram b)

abbrev pub write_event : ℕ → ℕ → List ℤ → Observed
write_event b a words = if is_ram b then RamWrite a words else (if is_eram b then EncWrite a else Oram b)
