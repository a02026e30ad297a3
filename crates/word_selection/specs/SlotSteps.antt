-- Steps over a few registers and the slots of the scratchpad: constants, operations, and words that are read from a slot
-- or written in one. The registers are counted from a register of the machine. (This project's own notion.)
use Rattle.std.specs.Prelude.{◌≡◌, ℕ, ◌+◌, ◌<◌, ◌≤◌, ◌%◌, Bool, false, not, ◌&&◌, ◌||◌, ℤ, List, [], ◌∷◌, ◌⊎◌, slice_index_or, slice_set, map, Option, Some}
use Rattle.gr_word.specs.Words.{IsWord, applied, unsigned_of}
use Rattle.gr_word.specs.declared.operations.Op.{Op}
use Rattle.lt_isa.specs.declared.profiles.Profile.{Profile}
use Rattle.lt_isa.specs.declared.instructions.Instr.{Instr}
use Rattle.lt_isa.specs.declared.instructions.Instr.TheVariants.{Li, Alu, Ldw, Stw}
use Rattle.lt_isa.specs.Object.{Parts}
use Rattle.lt_isa.specs.Costs.{operation_cost}
use Rattle.lt_isa.specs.Machine.{Slot, Unbound, Bound, slot_words, word_in}
use Rattle.symbolic_values.specs.Trees.{Value, Const}
use Rattle.trace_patterns.specs.SymStates.{SymState, tree_held, slot_held}
use Rattle.trace_patterns.specs.Single.{applied_trees, word_held}
use Rattle.stretches.specs.Shows.{Show, Gap}
use Rattle.strength_reduction.specs.Steps.{replaced, numbered}

-- A register becomes a constant, the result of an operation on two registers, the result of an operation on a register
-- and a register of the machine that isn't one of the steps', or the word of a slot whose number is in register `at`. Or
-- the word of a register becomes that word of the slot.
pub data SlotStep : Type 0 where
  Constant : (to : ℕ) (value : ℤ) → SlotStep
  Compute : (op : Op) (to left right : ℕ) → SlotStep
  Combine : (op : Op) (to left outside : ℕ) → SlotStep
  Read : (to slot at : ℕ) → SlotStep
  Write : (from slot at : ℕ) → SlotStep

-- a register of the machine that isn't one of the steps' registers 0 to `most`
abbrev pub IsOutside : (base most r : ℕ) → Type 0
IsOutside base most r = (r < base) ⊎ (base + most < r)

-- a step over registers 0 to `most`, and slots of a set
abbrev pub StepFits : (base most : ℕ) → (ℕ → Type 0) → SlotStep → Type 0
StepFits base most Used (Constant to value) = to ≤ most
StepFits base most Used (Compute op to left right) = (to ≤ most) × (left ≤ most) × (right ≤ most)
StepFits base most Used (Combine op to left outside) = (to ≤ most) × (left ≤ most) × IsOutside base most outside
StepFits base most Used (Read to slot at) = (to ≤ most) × (at ≤ most) × Used slot
StepFits base most Used (Write from slot at) = (from ≤ most) × (at ≤ most) × Used slot

-- a step with a constant that is a word, and another register that the machine has
abbrev pub OperandFits : SlotStep → Type 0
OperandFits (Constant to value) = IsWord value
OperandFits (Combine op to left outside) = outside < 32
OperandFits other = Unit {0}

-- steps as instructions, where register 0 of the steps is this register of the machine
abbrev pub instruction_of : ℕ → SlotStep → Instr
instruction_of base (Constant to value) = Li (numbered base to) value
instruction_of base (Compute op to left right) =
    Alu op (numbered base to) (numbered base left) (numbered base right)
instruction_of base (Combine op to left outside) = Alu op (numbered base to) (numbered base left) outside
instruction_of base (Read to slot at) = Ldw (numbered base to) slot (numbered base at)
instruction_of base (Write from slot at) = Stw (numbered base from) slot (numbered base at)

abbrev pub code_of : ℕ → List SlotStep → List Instr
code_of base steps = map (instruction_of base) steps

-- the word of a slot that a number names, if a block has `size` words, and the slot with another word there
abbrev pub word_of : ℕ → Slot → ℤ → ℤ
word_of size bound at = word_in (slot_words bound) (unsigned_of at % size)

abbrev pub with_word : ℕ → Slot → ℤ → ℤ → Slot
with_word size Unbound at word = Unbound
with_word size (Bound bank block words) at word = Bound bank block (slice_set words (unsigned_of at % size) word)

abbrev pub slot_at : List Slot → ℕ → Slot
slot_at slots k = slice_index_or slots k Unbound

-- slots, where a word of one slot has become another
abbrev pub with_word_at : ℕ → List Slot → ℕ → ℤ → ℤ → List Slot
with_word_at size slots k at word = slice_set slots k (with_word size (slot_at slots k) at word)

-- what the registers of steps, the other registers and the slots have
pub record Contents : Type 0 where
  pub registers : ℕ → ℤ
  pub outside : ℕ → ℤ
  pub slots : List Slot

-- the same with another word in a register, and with other slots
abbrev pub with_register : Contents → ℕ → ℤ → Contents
with_register c to word = record { registers = replaced c.registers to word; outside = c.outside; slots = c.slots }

abbrev pub with_slots : Contents → List Slot → Contents
with_slots c slots = record { registers = c.registers; outside = c.outside; slots = slots }

abbrev pub after_step : ℕ → SlotStep → Contents → Contents
after_step size (Constant to value) c = with_register c to value
after_step size (Compute op to left right) c = with_register c to (applied op (c.registers left) (c.registers right))
after_step size (Combine op to left outside) c = with_register c to (applied op (c.registers left) (c.outside outside))
after_step size (Read to slot at) c = with_register c to (word_of size (slot_at c.slots slot) (c.registers at))
after_step size (Write from slot at) c =
    with_slots c (with_word_at size c.slots slot (c.registers at) (c.registers from))

-- what they have after steps
abbrev pub after : ℕ → List SlotStep → Contents → Contents
after size [] c = c
after size (step ∷ steps) c = after size steps (after_step size step c)

-- Which registers may be secret after steps, by the labels of the other registers: a constant is public, a result is
-- secret if an operand is, and a word of a slot is public only if the slot is bound to plain memory and its number is
-- public.
abbrev pub label_step : Bool → (ℕ → Bool) → SlotStep → (ℕ → Bool) → ℕ → Bool
label_step plain others (Constant to value) secret = replaced secret to false
label_step plain others (Compute op to left right) secret = replaced secret to (secret left || secret right)
label_step plain others (Combine op to left outside) secret = replaced secret to (secret left || others outside)
label_step plain others (Read to slot at) secret = replaced secret to (not plain || secret at)
label_step plain others (Write from slot at) secret = secret

abbrev pub labels_after : Bool → (ℕ → Bool) → List SlotStep → (ℕ → Bool) → ℕ → Bool
labels_after plain others [] secret = secret
labels_after plain others (step ∷ steps) secret = labels_after plain others steps (label_step plain others step secret)

-- in plain memory no secret is written, and no word whose number is secret
abbrev pub StepMayWrite : Bool → (ℕ → Bool) → SlotStep → Type 0
StepMayWrite plain secret (Write from slot at) = (plain && (secret from || secret at)) ≡ false
StepMayWrite plain secret other = Unit {0}

abbrev pub MayWrite : Bool → (ℕ → Bool) → List SlotStep → (ℕ → Bool) → Type 0
MayWrite plain others [] secret = Unit {0}
MayWrite plain others (step ∷ steps) secret =
    StepMayWrite plain secret step × MayWrite plain others steps (label_step plain others step secret)

-- the trees that steps leave in the registers, by those of the other registers and by what is known of the slots
abbrev pub tree_step : Parts → SymState → SlotStep → (ℕ → Option Value) → ℕ → Option Value
tree_step o s (Constant to value) trees = replaced trees to (Some (Const value))
tree_step o s (Compute op to left right) trees = replaced trees to (applied_trees op (trees left) (trees right))
tree_step o s (Combine op to left outside) trees =
    replaced trees to (applied_trees op (trees left) (tree_held s outside))
tree_step o s (Read to slot at) trees = replaced trees to (word_held o (slot_held s slot) (trees at))
tree_step o s (Write from slot at) trees = trees

abbrev pub trees_after : Parts → SymState → List SlotStep → (ℕ → Option Value) → ℕ → Option Value
trees_after o s [] trees = trees
trees_after o s (step ∷ steps) trees = trees_after o s steps (tree_step o s step trees)

-- steps that write nothing
abbrev pub IsReading : SlotStep → Type 0
IsReading (Write from slot at) = ⊥
IsReading other = Unit {0}

-- what the code of steps shows: the cycles of each
abbrev pub step_show : Profile → SlotStep → Show
step_show profile (Constant to value) = Gap 1
step_show profile (Compute op to left right) = Gap (operation_cost profile op)
step_show profile (Combine op to left outside) = Gap (operation_cost profile op)
step_show profile (Read to slot at) = Gap profile.word
step_show profile (Write from slot at) = Gap profile.word

abbrev pub steps_show : Profile → List SlotStep → List Show
steps_show profile steps = map (step_show profile) steps
