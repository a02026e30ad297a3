-- The scratchpad and the banks of a machine, as its parts see them. For the contracts of private functions, and for
-- proofs.
-- (GhostRider, ASPLOS 2015: the scratchpad.)
use Rattle.std.specs.Prelude.{◌≡◌, ℕ, ℤ, List, length, All, slice_set, if◌then◌else◌, Option, Some, None}
use Rattle.lt_isa.specs.Machine.{Slot, Unbound, Bound}
use Rattle.processor.specs.declared.scratchpad.Cell.{Cell}
use Rattle.processor.specs.declared.scratchpad.Held.{Held}

-- what a cell of the scratchpad represents
abbrev pub cell_slot : Cell → Slot
cell_slot c = if c.bound then Bound c.bank c.block c.words.items else Unbound

-- each cell has room for this many words
abbrev pub HaveRoom : ℕ → List Cell → Type 0
HaveRoom words cells = All (λ c. length c.words.items ≡ words) cells

-- what is held, as a slot
abbrev pub held_slot : Option Held → Slot
held_slot None = Unbound
held_slot (Some h) = Bound h.bank h.block h.words.now

-- the slot with another word, if it is bound
abbrev pub slot_with_word : ℕ → ℤ → Slot → Slot
slot_with_word i word Unbound = Unbound
slot_with_word i word (Bound b a words) = Bound b a (slice_set words i word)
