-- What is known at the entry of a region, over the numbers of a table of values.
-- (GhostRider, ASPLOS 2015: the symbolic memory of the type system of L_T; its forms are this project's profile.)
use Rattle.std.specs.Prelude.{◌≡◌, ℕ, ◌<◌, ◌≤◌, List, length, slice_index_or, Option}
use Rattle.symbolic_values.specs.declared.nodes.Node.{Node}
use Rattle.symbolic_values.specs.Trees.{Value, Reg, SlotAt}
use Rattle.symbolic_values.specs.Tables.{IsTable, IsNumber}
use Rattle.trace_patterns.specs.Known.{Known, bank_known}
use Rattle.trace_patterns.specs.SymStates.{at_entry, entry_tree, entry_slot}
use Rattle.region_walk.specs.declared.region_values.EntryTable.{EntryTable}
use Rattle.region_walk.specs.declared.regions.Crossing.{Crossing}
use Rattle.region_walk.specs.declared.regions.Carried.{Carried}
use Rattle.region_walk.specs.declared.states.Slot.{Slot}
use Rattle.region_walk.specs.declared.states.RegionState.{RegionState}
use Rattle.region_walk.specs.Slots.{known_tree, slot_of, NumberFits, NumberedSlotFits}
use Rattle.region_walk.specs.States.{number_in, slot_at, sym_of, StateFits}
use Rattle.region_walk.specs.Tables.{TableGains}
use Rattle.region_walk.specs.declared.regions.Crossing.TheVariants as crossing
use Rattle.region_walk.specs.declared.regions.Carried.TheVariants as carried

-- the first `count` of some numbers are those of trees 0, 1, ..
pub record Numbers (count : ℕ) (tree : ℕ → Value) (old new : List Node) (numbers : List ℕ) : Type 0 where
  pub gains : TableGains count old new
  pub are : (i : ℕ) → i < count → IsNumber new (slice_index_or numbers i 0) (tree i)

-- a table has a number for what each register holds at the entry, and for the block to which each slot is bound there
pub record HasEntries (t : EntryTable) : Type 0 where
  pub table : IsTable t.values
  pub few : length t.values ≤ 40
  pub registers : (r : ℕ) → r < 32 → IsNumber t.values (slice_index_or t.registers r 0) (Reg r)
  pub slots : (k : ℕ) → k < 8 → IsNumber t.values (slice_index_or t.slots k 0) (SlotAt k)

-- the first `count` nodes of a table have the values of an entry
pub record BeginsWithEntries (count : ℕ) (t : EntryTable) : Type 0 where
  pub few : count ≤ 40
  pub inside : count ≤ length t.values
  pub register_numbers : (r : ℕ) → r < 32 → slice_index_or t.registers r 0 < count
  pub slot_numbers : (k : ℕ) → k < 8 → slice_index_or t.slots k 0 < count
  pub registers : (r : ℕ) → r < 32 → IsNumber t.values (slice_index_or t.registers r 0) (Reg r)
  pub slots : (k : ℕ) → k < 8 → IsNumber t.values (slice_index_or t.slots k 0) (SlotAt k)

-- the table has only the values of an entry after a region was crossed, and after any carry in which memory didn't run
-- out
abbrev pub KeepsEntries : Crossing → EntryTable → Type 0
KeepsEntries (crossing.Crosses join known) t = HasEntries t
KeepsEntries (crossing.Blocked place reason) t = Unit {0}
KeepsEntries crossing.Memory t = Unit {0}

abbrev pub KeepsCarried : Carried → EntryTable → Type 0
KeepsCarried (carried.Joins join known) t = HasEntries t
KeepsCarried carried.Unshaped t = HasEntries t
KeepsCarried carried.Memory t = Unit {0}

-- a state over numbers is the state at the entry
pub record IsAtEntry (k : Known) (nodes : List Node) (s : RegionState) : Type 0 where
  pub state : sym_of nodes s ≡ at_entry k
  pub fits : StateFits (length nodes) s

-- the first `count` registers hold what they hold at the entry
pub record HoldsEntry (count : ℕ) (k : Known) (nodes : List Node) (s t : RegionState) : Type 0 where
  pub held_are : (r : ℕ) → r < count → known_tree nodes (number_in t r) ≡ entry_tree k r
  pub fits : (r : ℕ) → NumberFits (length nodes) (number_in t r)
  pub size : length t.registers ≡ 32
  pub slots : t.slots ≡ s.slots

-- the first `count` slots are bound as at the entry
pub record BindsEntry (count : ℕ) (k : Known) (nodes : List Node) (s t : RegionState) : Type 0 where
  pub bound_are : (j : ℕ) → j < count → slot_of nodes (slot_at t j) ≡ entry_slot (bank_known k j) j
  pub fits : (j : ℕ) → NumberedSlotFits (length nodes) (slot_at t j)
  pub size : length t.slots ≡ 8
  pub registers : t.registers ≡ s.registers

-- the number of a tree, if there is one
pub record IsEntryNumber (t : Option Value) (nodes : List Node) (number : Option ℕ) : Type 0 where
  pub held_is : known_tree nodes number ≡ t
  pub fits : NumberFits (length nodes) number

-- a slot is bound as at the entry
pub record IsEntrySlot (bank : Option ℕ) (j : ℕ) (nodes : List Node) (bound : Slot) : Type 0 where
  pub bound_is : slot_of nodes bound ≡ entry_slot bank j
  pub fits : NumberedSlotFits (length nodes) bound
