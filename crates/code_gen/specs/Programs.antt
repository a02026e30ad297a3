-- For the proofs and for private clauses only: the code of a whole program. It begins with the loads of the slots and
-- registers that the rest relies on, and ends with the stores of the scalars that registers hold for the whole run, and
-- of the blocks that slots hold.
use Rattle.std.specs.Prelude.{ℕ, ◌+◌, pos, List, [], ◌∷◌, ◌++◌, length, Option, Some, None}
use Rattle.lt_isa.specs.declared.symbols.Note.{Note}
use Rattle.lt_isa.specs.declared.instructions.Instr.{Instr}
use Rattle.lt_isa.specs.declared.instructions.Instr.TheVariants.{Li, Ldw, Stw, Ldb, Stb, Halt}
use Rattle.src_tree.specs.Trees.{Block}
use Rattle.scratch_alloc.specs.declared.plans.Pin.{Pin}
use Rattle.block_cache_gen.specs.Homes.{Held, Setting}
use Rattle.block_cache_gen.specs.HeldCodes.{begin_code, end_code, held_beginning, held_ending}
use Rattle.block_cache_gen.specs.ServedBlocks.{first_blocks}
use Rattle.code_gen.specs.declared.programs.Phase.{Phase}
use Rattle.code_gen.specs.declared.programs.Phase.TheVariants.{Beginning, Ending}
use Rattle.code_gen.specs.Statements.{Padding, block_code, block_notes}
use Rattle.compiled_objects.specs.Compiles.{at_start}

-- the load of a block to a slot, if there is a block
abbrev pub load_code : (slot : ℕ) → Option Pin → List Instr
load_code slot None = []
load_code slot (Some p) = Li 0 (pos p.block) ∷ Ldb slot p.bank 0 ∷ []

-- the store of a slot's block, if the slot is pinned
abbrev pub pin_store : (slot : ℕ) → Option Pin → List Instr
pin_store slot None = []
pin_store slot (Some p) = Stb slot ∷ []

-- the code that a slot needs before the statements of a program, and after them
abbrev pub slot_code : Phase → (slot : ℕ) → Option Pin → List Instr
slot_code Beginning = load_code
slot_code Ending = pin_store

-- the load or the store of a register's word in a slot: register 0 holds the number of the word
abbrev pub access : Phase → (r slot : ℕ) → Instr
access Beginning r slot = Ldw r slot 0
access Ending r slot = Stw r slot 0

-- the code that a register needs
abbrev pub register_code : Phase → Setting → (r : ℕ) → Held → List Instr
register_code Beginning = begin_code
register_code Ending = end_code

-- the code of each slot from one on, in order
abbrev pub each_slot : ((slot : ℕ) → Option Pin → List Instr) → (slot : ℕ) → List (Option Pin) → List Instr
each_slot code slot [] = []
each_slot code slot (pin ∷ pins) = code slot pin ++ each_slot code (slot + 1) pins

abbrev pub beginning : Setting → List Instr
beginning f = each_slot load_code 0 (first_blocks f) ++ held_beginning f

abbrev pub ending : Setting → List Instr
ending f = held_ending f ++ (each_slot pin_store 0 f.pins ++ Halt ∷ [])

abbrev pub program_code : Setting → Padding → Block → List Instr
program_code f padded body = beginning f ++ (block_code (at_start f) padded body ++ ending f)

abbrev pub program_notes : Setting → Padding → Block → List Note
program_notes f padded body = block_notes (at_start f) padded (length (beginning f)) body
