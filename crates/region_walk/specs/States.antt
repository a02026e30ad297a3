-- States in a region over the numbers of a table of values, and the states over trees that they represent. (GhostRider,
-- ASPLOS 2015: the symbolic memory of the type system of L_T; its forms are this project's profile.)
use Rattle.std.specs.Prelude.{◌≡◌, ℕ, is_none, List, length, map, slice_index_or, slice_set, Option, None}
use Rattle.symbolic_values.specs.declared.nodes.Node.{Node}
use Rattle.trace_patterns.specs.Known.{Known}
use Rattle.trace_patterns.specs.SymStates.{SymState}
use Rattle.region_walk.specs.declared.states.Slot.{Slot}
use Rattle.region_walk.specs.declared.states.Slot.TheVariants.{Any}
use Rattle.region_walk.specs.declared.states.RegionState.{RegionState}
use Rattle.region_walk.specs.Slots.{known_tree, slot_of, bank_of, NumberFits, NumberedSlotFits, IsCommonOf}

-- what is known of a register and of a slot; nothing if it isn't listed
abbrev pub number_in : RegionState → ℕ → Option ℕ
number_in s r = slice_index_or s.registers r None

abbrev pub slot_at : RegionState → ℕ → Slot
slot_at s k = slice_index_or s.slots k Any

-- the state with another register or slot
abbrev pub with_number : RegionState → ℕ → Option ℕ → RegionState
with_number s r number = record s { registers = slice_set s.registers r number }

abbrev pub with_known_slot : RegionState → ℕ → Slot → RegionState
with_known_slot s k bound = record s { slots = slice_set s.slots k bound }

-- the state over trees that a state over numbers represents
unfoldable pub sym_of : List Node → RegionState → SymState
sym_of nodes s = record { registers = map (known_tree nodes) s.registers; slots = map (slot_of nodes) s.slots }

-- a state has an entry for each register and slot, and its numbers are below a count
pub record StateFits (count : ℕ) (s : RegionState) : Type 0 where
  pub register_count : length s.registers ≡ 32
  pub slot_count : length s.slots ≡ 8
  pub registers : (r : ℕ) → NumberFits count (number_in s r)
  pub slots : (k : ℕ) → NumberedSlotFits count (slot_at s k)

-- what is known after the region, in public code
unfoldable pub known_of : RegionState → Known
known_of s = record { secret = map is_none s.registers; banks = map bank_of s.slots }

-- what two states have in common
pub record IsCommon (s t u : RegionState) : Type 0 where
  pub register_count : length u.registers ≡ length s.registers
  pub slot_count : length u.slots ≡ length s.slots
  pub registers : (r : ℕ) → IsCommonOf None (number_in s r) (number_in t r) (number_in u r)
  pub slots : (k : ℕ) → IsCommonOf Any (slot_at s k) (slot_at t k) (slot_at u k)
