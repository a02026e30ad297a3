-- What is known in a region, in the arms of a branch on a secret: which tree a register holds, over the state at the
-- entry of the outermost region, and to what a slot of the scratchpad is bound. (GhostRider, ASPLOS 2015: the symbolic
-- memory of the type system of L_T; its forms are this project's profile.)
use Rattle.std.specs.Prelude.{◌≡◌, ◌↔◌, ℕ, Bool, true, false, ◌&&◌, ◌==◌, if◌then◌else◌, is_none, List, map, slice_index_or, slice_set, Option, Some, None}
use Rattle.std.specs.List.{range_with_len, zip}
use Rattle.symbolic_values.specs.Trees.{Value, Reg, SlotAt}
use Rattle.symbolic_values.specs.Sameness.{same_tree}
use Rattle.lt_isa.specs.Object.{is_ram, is_eram}
use Rattle.trace_patterns.specs.Known.{Known, is_secret, bank_known}

-- the origin of the words of a slot that is bound to plain memory: a slot at the entry, or a load since then
pub data Origin : Type 0 where
  Entry : (slot : ℕ) → Origin
  Loaded : Origin

-- A slot may be bound to any bank or to none; or it is bound to plain memory, with the block's number and the words'
-- origin; or to encrypted memory, with the block's number; or to an oblivious bank.
pub data SymSlot : Type 0 where
  AnySlot : SymSlot
  RamSlot : (block : Value) (origin : Origin) → SymSlot
  EramSlot : (block : Value) → SymSlot
  OramSlot : (bank : ℕ) → SymSlot

-- a register without a tree may hold anything
pub record SymState : Type 0 where
  pub registers : List (Option Value)
  pub slots : List SymSlot

-- what is known of a register and of a slot; nothing of one that isn't listed
abbrev pub tree_held : SymState → ℕ → Option Value
tree_held s r = slice_index_or s.registers r None

abbrev pub slot_held : SymState → ℕ → SymSlot
slot_held s k = slice_index_or s.slots k AnySlot

-- the state with another register or slot
abbrev pub hold_tree : SymState → ℕ → Option Value → SymState
hold_tree s r value = record s { registers = slice_set s.registers r value }

abbrev pub hold_slot : SymState → ℕ → SymSlot → SymState
hold_slot s k bound = record s { slots = slice_set s.slots k bound }

-- the state at the entry: the tree of a public register is the register itself, a secret one has no tree, and a slot is
-- bound to the bank that is known
abbrev pub entry_tree : Known → ℕ → Option Value
entry_tree k r = if is_secret k r then None else Some (Reg r)

abbrev pub entry_slot : Option ℕ → ℕ → SymSlot
entry_slot None j = AnySlot
entry_slot (Some bank) j =
    if is_ram bank then RamSlot (SlotAt j) (Entry j) else (if is_eram bank then EramSlot (SlotAt j) else OramSlot bank)

unfoldable pub entry_trees : ℕ → Known → List (Option Value)
entry_trees count k = map (entry_tree k) (range_with_len 0 count)

unfoldable pub entry_slots : ℕ → Known → List SymSlot
entry_slots count k = map (λ j. entry_slot (bank_known k j) j) (range_with_len 0 count)

abbrev pub at_entry : Known → SymState
at_entry k = record { registers = entry_trees 32 k; slots = entry_slots 8 k }

-- after the join, in public code: a register with a tree is public, one without may hold a secret, and slots keep their
-- banks
abbrev pub slot_bank : SymSlot → Option ℕ
slot_bank AnySlot = None
slot_bank (RamSlot block origin) = Some 0
slot_bank (EramSlot block) = Some 1
slot_bank (OramSlot bank) = Some bank

abbrev pub known_after : SymState → Known
known_after s = record { secret = map is_none s.registers; banks = map slot_bank s.slots }

-- what is known at a join: what two arms leave alike
abbrev pub same_origin : Origin → Origin → Bool
same_origin (Entry j) (Entry k) = j == k
same_origin Loaded Loaded = true
same_origin _ _ = false

-- Rule: join/register.
abbrev pub common_tree : Option Value → Option Value → Option Value
common_tree (Some t) (Some u) = if same_tree t u then Some t else None
common_tree _ _ = None

-- Rule: join/slot.
abbrev pub common_slot : SymSlot → SymSlot → SymSlot
common_slot (RamSlot block origin) (RamSlot other origin') =
    if same_tree block other && same_origin origin origin' then RamSlot block origin else AnySlot
common_slot (EramSlot block) (EramSlot other) = if same_tree block other then EramSlot block else AnySlot
common_slot (OramSlot bank) (OramSlot other) = if bank == other then OramSlot bank else AnySlot
common_slot _ _ = AnySlot

unfoldable pub common : SymState → SymState → SymState
common s t = record {
  registers = map (λ p. common_tree p.0 p.1) (zip s.registers t.registers);
  slots = map (λ p. common_slot p.0 p.1) (zip s.slots t.slots);
}

-- In other words: at a join, a register has a tree if both arms leave it that tree, and a slot is bound if both arms
-- leave it bound alike.
pub record IsJoin (left right joined : SymState) : Type 0 where
  pub registers : (r : ℕ) (t : Value)
      → (tree_held joined r ≡ Some t) ↔ ((tree_held left r ≡ Some t) × (tree_held right r ≡ Some t))
  pub slots : (k : ℕ) (bound : SymSlot) → ¬ (bound ≡ AnySlot)
      → (slot_held joined k ≡ bound) ↔ ((slot_held left k ≡ bound) × (slot_held right k ≡ bound))
