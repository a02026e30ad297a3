-- What a run through the code leaves that reads or writes a word of an array with several blocks. (This project's own
-- choice.)
use Rattle.std.specs.Prelude.{◌≡◌, ℕ, ◌+◌, ◌<◌, ◌≤◌, ℤ, List, length, slice_get, Some}
use Rattle.lt_isa.specs.Machine.{Slot, Bound, State, register, slot}

-- a slot is bound to some block
pub record IsBound (x : Slot) : Type 0 where
  pub bank : ℕ
  pub block : ℕ
  pub words : List ℤ
  pub is : x ≡ Bound bank block words

-- at most eight slots, each bound to some block
abbrev pub AreBound : State → List ℕ → Type 0
AreBound s slots = (length slots ≤ 8) × ((i k : ℕ) → slice_get slots i ≡ Some k → IsBound (slot s k))

-- a register has a word; the registers below it and those after the three that follow it, the slots and the banks are as
-- before
pub record ReadsWord (to : ℕ) (word : ℤ) (s t : State) : Type 0 where
  pub value : register t to ≡ word
  pub below : (r : ℕ) → r < to → register t r ≡ register s r
  pub above : (r : ℕ) → to + 3 < r → register t r ≡ register s r
  pub slots : t.slots ≡ s.slots
  pub banks : t.banks ≡ s.banks

-- the slots are these; the registers below the number's and those after the four that follow it, and the banks, are as
-- before
pub record WritesWord (to : ℕ) (slots : List Slot) (s t : State) : Type 0 where
  pub below : (r : ℕ) → r < to → register t r ≡ register s r
  pub above : (r : ℕ) → to + 4 < r → register t r ≡ register s r
  pub slots_are : t.slots ≡ slots
  pub banks : t.banks ≡ s.banks
