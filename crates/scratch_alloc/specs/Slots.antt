-- The slot of the scratchpad by which compiled code reaches each variable (this project's profile). Slot 0 holds the
-- block of the public scalars and slot 1 that of the secret ones; arrays of plain memory take slots 2 and 3 in turn,
-- those of encrypted memory 4 and 5 in turn, and oblivious arrays slot 6.
use Rattle.std.specs.Prelude.{◌≡◌, ℕ, ◌+◌, ◌%◌, ◌≤◌, if◌then◌else◌, List, [], ◌∷◌, ◌++◌}
use Rattle.lt_isa.specs.Object.{is_ram}
use Rattle.bank_alloc.specs.declared.places.Place.{Place}
use Rattle.bank_alloc.specs.Places.{is_oblivious, is_array, arrays_in}

-- of two slots in turn, the one for an array that this many of its bank come before
abbrev pub alternate_slot : ℕ → ℕ → ℕ
alternate_slot slot arrays = slot + arrays % 2

-- the slot of a variable whose place is after those of others, in order of declaration
abbrev pub scalar_slot : Place → ℕ
scalar_slot q = if is_ram q.bank then 0 else 1

abbrev pub array_slot : List Place → Place → ℕ
array_slot before q =
    if is_oblivious q then 6
    else (if is_ram q.bank then alternate_slot 2 (arrays_in 0 before) else alternate_slot 4 (arrays_in 1 before))

abbrev pub slot_behind : List Place → Place → ℕ
slot_behind before q = if is_array q then array_slot before q else scalar_slot q

-- the slots of variables after others
unfoldable pub slots_behind : List Place → List Place → List ℕ
slots_behind before [] = []
slots_behind before (q ∷ places) = slot_behind before q ∷ slots_behind (before ++ q ∷ []) places

-- the slots of all variables, in order of declaration
abbrev pub slots_of : List Place → List ℕ
slots_of places = slots_behind [] places

-- the same by cases: the slot of a variable after others
pub data HasSlot (before : List Place) (q : Place) : ℕ → Type 0 where
  PlainScalar : (bank : q.bank ≡ 0) (block : q.block ≡ 0) → HasSlot before q 0
  EncryptedScalar : (bank : q.bank ≡ 1) (block : q.block ≡ 0) → HasSlot before q 1
  PlainArray : (bank : q.bank ≡ 0) (block : 1 ≤ q.block) → HasSlot before q (2 + arrays_in 0 before % 2)
  EncryptedArray : (bank : q.bank ≡ 1) (block : 1 ≤ q.block) → HasSlot before q (4 + arrays_in 1 before % 2)
  ObliviousArray : (bank : 2 ≤ q.bank) → HasSlot before q 6
