-- One instruction of an arm of a branch on a secret: what it shows, and what is known after it. (GhostRider, ASPLOS
-- 2015: the type system of L_T; the order of refusals is this project's profile.)
use Rattle.std.specs.Prelude.{ℕ, zero, suc, false, pos, negsuc, ℤ, if◌then◌else◌, Option, Some, None}
use Rattle.gr_word.specs.declared.operations.Op.{Op}
use Rattle.gr_word.specs.declared.operations.Op.TheVariants.{Remu}
use Rattle.lt_isa.specs.declared.instructions.Instr.{Instr}
use Rattle.lt_isa.specs.declared.instructions.Instr.TheVariants.{Nop, Halt, Li, Alu, Ldb, Stb, Idb, Ldw, Stw, Jmp, Br}
use Rattle.lt_isa.specs.Object.{Parts, is_ram, is_eram, blocks_of, block_words}
use Rattle.lt_isa.specs.Costs.{cost_of}
use Rattle.symbolic_values.specs.Trees.{Value, Const, Apply, SlotWord, MemWord}
use Rattle.trace_patterns.specs.declared.reasons.Reason.{Reason}
use Rattle.trace_patterns.specs.declared.reasons.Reason.TheVariants.{SecretAddress, UnboundSlot, SecretLoop, HaltInSecret, RamStoreInSecret, BadRegion}
use Rattle.trace_patterns.specs.Patterns.{Shown, no_events, with_gap, with_event}
use Rattle.trace_patterns.specs.Events.{TreeEvent, RamRead, EncRead, EncWrite, Oram}
use Rattle.trace_patterns.specs.SymStates.{Origin, Entry, Loaded, SymSlot, AnySlot, RamSlot, EramSlot, OramSlot, SymState, tree_held, slot_held, hold_tree, hold_slot}

-- An instruction is refused; or it shows a pattern, with what is known after it; or it is a branch, which opens another
-- region.
pub data Single : Type 0 where
  Refuses : (reason : Reason) → Single
  Goes : (pattern : Shown TreeEvent) (state : SymState) → Single
  Branches : (offset : ℤ) → Single

-- the pattern of some cycles without an event, and of one event
abbrev pub gap : ℕ → Shown TreeEvent
gap cycles = with_gap no_events cycles

abbrev pub event : TreeEvent → Shown TreeEvent
event e = with_event no_events e

-- an instruction without an event takes its cycles
abbrev pub quietly : Parts → Instr → SymState → Single
quietly o i behind = Goes (gap (cost_of o i false 0)) behind

-- the block that a tree names in a bank, and the word that it names in a block
abbrev pub named_block : Parts → ℕ → Value → Value
named_block o bank t = Apply Remu t (Const (pos (blocks_of o bank)))

abbrev pub named_word : Parts → Value → Value
named_word o t = Apply Remu t (Const (pos (block_words o)))

-- the tree of a word of a slot that is bound to plain memory
abbrev pub word_tree : Origin → Value → Value → Value
word_tree (Entry slot) block place = SlotWord slot place
word_tree Loaded block place = MemWord block place

-- the tree of an operation, if both operands have one
-- Rule: arm/operation.
abbrev pub applied_trees : Op → Option Value → Option Value → Option Value
applied_trees op (Some a) (Some b) = Some (Apply op a b)
applied_trees op _ _ = None

-- if the observer sees the number of the block, its tree must be known
abbrev pub at_tree : Option Value → (Value → Single) → Single
at_tree None go = Refuses SecretAddress
at_tree (Some t) go = go t

abbrev pub loads : Parts → SymState → ℕ → ℕ → ℕ → Single
loads o s k bank r =
    if is_ram bank then at_tree (tree_held s r) (λ t. let block = named_block o bank t in
    Goes (event (RamRead block)) (hold_slot s k (RamSlot block Loaded)))
    else (if is_eram bank then at_tree (tree_held s r) (λ t. let block = named_block o bank t in
    Goes (event (EncRead block)) (hold_slot s k (EramSlot block)))
    else Goes (event (Oram bank)) (hold_slot s k (OramSlot bank)))

-- a block is stored, but not in plain memory
-- Rule: check/arm-plain-write.
abbrev pub stores : SymState → SymSlot → Single
stores s AnySlot = Refuses UnboundSlot
stores s (RamSlot block origin) = Refuses RamStoreInSecret
stores s (EramSlot block) = Goes (event (EncWrite block)) s
stores s (OramSlot bank) = Goes (event (Oram bank)) s

-- the tree of the number of a slot's block
-- Rule: arm/idb.
abbrev pub block_held : SymSlot → Option Value
block_held AnySlot = None
block_held (RamSlot block origin) = Some block
block_held (EramSlot block) = Some block
block_held (OramSlot bank) = None

-- the tree of a slot's word, if the slot is bound to plain memory and the word's place is known
-- Rules: arm/ldw-plain, arm/ldw.
abbrev pub word_held : Parts → SymSlot → Option Value → Option Value
word_held o (RamSlot block origin) (Some t) = Some (word_tree origin block (named_word o t))
word_held o _ _ = None

-- an instruction whose slot must be bound; and an instruction whose slot must be bound, but not to plain memory
abbrev pub if_bound : SymSlot → Single → Single
if_bound AnySlot go = Refuses UnboundSlot
if_bound other go = go

abbrev pub if_stored : SymSlot → Single → Single
if_stored AnySlot go = Refuses UnboundSlot
if_stored (RamSlot block origin) go = Refuses RamStoreInSecret
if_stored (EramSlot block) go = go
if_stored (OramSlot bank) go = go

-- a jump in an arm is refused; a jump that doesn't lead forward is refused as a loop
-- Rule: check/arm-jump.
abbrev pub jump_refused : ℤ → Reason
jump_refused (pos zero) = SecretLoop
jump_refused (pos (suc n)) = BadRegion
jump_refused (negsuc n) = SecretLoop

-- the result of an instruction, if s is known before it
-- Rules: arm/li, check/arm-halt.
unfoldable pub single : Parts → SymState → Instr → Single
single o s Nop = quietly o Nop s
single o s Halt = Refuses HaltInSecret
single o s (Li rd value) = quietly o (Li rd value) (hold_tree s rd (Some (Const value)))
single o s (Alu op rd ra rb) =
    quietly o (Alu op rd ra rb) (hold_tree s rd (applied_trees op (tree_held s ra) (tree_held s rb)))
single o s (Ldb k bank r) = loads o s k bank r
single o s (Stb k) = stores s (slot_held s k)
single o s (Idb rd k) =
    if_bound (slot_held s k) (quietly o (Idb rd k) (hold_tree s rd (block_held (slot_held s k))))
single o s (Ldw rd k ro) =
    if_bound (slot_held s k) (quietly o (Ldw rd k ro) (hold_tree s rd (word_held o (slot_held s k) (tree_held s ro))))
single o s (Stw rs k ro) = if_stored (slot_held s k) (quietly o (Stw rs k ro) s)
single o s (Jmp offset) = Refuses (jump_refused offset)
single o s (Br cmp ra rb offset) = Branches offset
