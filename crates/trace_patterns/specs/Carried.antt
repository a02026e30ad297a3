-- What is known after one instruction, whether or not the check refuses it: in public code, and in an arm. (GhostRider,
-- ASPLOS 2015: the type system of L_T; that nothing is refused here is this project's profile.)
use Rattle.std.specs.Prelude.{ℕ, Bool, true, false, not, ◌||◌, if◌then◌else◌, Option, Some, None}
use Rattle.lt_isa.specs.declared.instructions.Instr.{Instr}
use Rattle.lt_isa.specs.declared.instructions.Instr.TheVariants.{Nop, Halt, Li, Alu, Ldb, Stb, Idb, Ldw, Stw, Jmp, Br}
use Rattle.lt_isa.specs.Object.{Parts, is_ram, is_eram}
use Rattle.symbolic_values.specs.Trees.{Value, Const}
use Rattle.trace_patterns.specs.Known.{Known, is_secret, bank_known, set_secret, set_bank}
use Rattle.trace_patterns.specs.SymStates.{Loaded, SymSlot, AnySlot, RamSlot, EramSlot, OramSlot, SymState, tree_held, slot_held, hold_tree, hold_slot}
use Rattle.trace_patterns.specs.Single.{applied_trees, block_held, word_held, named_block}
use Rattle.trace_patterns.specs.Rules.{shows_block}

-- an instruction that only continues to the next place
abbrev pub only_goes_on : Instr → Bool
only_goes_on Halt = false
only_goes_on (Jmp offset) = false
only_goes_on (Br cmp ra rb offset) = false
only_goes_on _ = true

-- a slot whose block the observer sees, and one whose words are public; neither, if the bank isn't known
abbrev pub slot_shows : Option ℕ → Bool
slot_shows None = false
slot_shows (Some bank) = shows_block bank

abbrev pub slot_is_ram : Option ℕ → Bool
slot_is_ram None = false
slot_is_ram (Some bank) = is_ram bank

-- in public code
unfoldable pub known_behind : Known → Instr → Known
known_behind k (Li rd value) = set_secret k rd false
known_behind k (Alu op rd ra rb) = set_secret k rd (is_secret k ra || is_secret k rb)
known_behind k (Ldb slot bank r) = set_bank k slot bank
known_behind k (Idb rd slot) = set_secret k rd (not (slot_shows (bank_known k slot)))
known_behind k (Ldw rd slot ro) = set_secret k rd (not (slot_is_ram (bank_known k slot)) || is_secret k ro)
known_behind k other = k

-- In an arm. After a load from plain or encrypted memory at an address that isn't known, nothing is known of the slot.
abbrev pub ram_loaded : Parts → ℕ → Option Value → SymSlot
ram_loaded o bank None = AnySlot
ram_loaded o bank (Some t) = RamSlot (named_block o bank t) Loaded

abbrev pub eram_loaded : Parts → ℕ → Option Value → SymSlot
eram_loaded o bank None = AnySlot
eram_loaded o bank (Some t) = EramSlot (named_block o bank t)

abbrev pub slot_loaded : Parts → ℕ → Option Value → SymSlot
slot_loaded o bank t =
    if is_ram bank then ram_loaded o bank t else (if is_eram bank then eram_loaded o bank t else OramSlot bank)

unfoldable pub held_behind : Parts → SymState → Instr → SymState
held_behind o s (Li rd value) = hold_tree s rd (Some (Const value))
held_behind o s (Alu op rd ra rb) = hold_tree s rd (applied_trees op (tree_held s ra) (tree_held s rb))
held_behind o s (Ldb k bank r) = hold_slot s k (slot_loaded o bank (tree_held s r))
held_behind o s (Idb rd k) = hold_tree s rd (block_held (slot_held s k))
held_behind o s (Ldw rd k ro) = hold_tree s rd (word_held o (slot_held s k) (tree_held s ro))
held_behind o s other = s
