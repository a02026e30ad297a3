-- For the proofs and for private clauses only, except `offset_to`: reading instructions from their words. This is the
-- computing form of `HasInstructionForm` and `WordsSpell`. An instruction whose target is a label has the offset 0
-- until the whole text is read. (This project's profile.)
use Rattle.std.specs.Prelude.{ℕ, nat_lt, Bool, false, true, if◌then◌else◌, ℤ, pos, ◌-ℤ◌, List, [], ◌∷◌, codes, Option, Some, None, option_map, Result, Ok, Err, bytes_eq, slice_index}
use Rattle.std.specs.Char.{is_ascii_digit}
use Rattle.gr_word.specs.declared.operations.Op.{Op}
use Rattle.gr_word.specs.declared.operations.Cmp.{Cmp}
use Rattle.gr_word.specs.Names.{is_name}
use Rattle.lt_isa.specs.declared.instructions.Instr.{Instr}
use Rattle.lt_isa.specs.declared.instructions.Instr.TheVariants.{Nop, Halt, Li, Alu, Ldb, Stb, Idb, Ldw, Stw, Jmp, Br}
use Rattle.lt_assembler.specs.declared.mnemonics.Mnemonic.{Mnemonic}
use Rattle.lt_assembler.specs.declared.faults.Fault.{Fault}
use Rattle.lt_assembler.specs.declared.faults.Fault.TheVariants.{WrongForm, Number, RepeatedName, Limit, Memory}
use Rattle.lt_assembler.specs.Words.{Word}
use Rattle.lt_assembler.specs.Numbers.{begins_with, but_first, number_within, constant_of, forward_of, backward_of}
use Rattle.lt_assembler.specs.Operands.{mnemonic_named, cmp_named, register_of, slot_named, bank_named}
use Rattle.gr_base.specs.Results.{◌>>=◌}
use Rattle.lt_assembler.specs.Faults.{form, number_or, unless_not}
use Rattle.lt_assembler.specs.declared.mnemonics.Mnemonic.TheVariants as mnemonic

-- a target: an offset, or a label whose place isn't known yet
pub record Aim : Type 0 where
  pub offset : ℤ
  pub label : Option Word

abbrev pub offset_aim : ℤ → Aim
offset_aim offset = record { offset = offset; label = None }

-- the offset from one place to another
abbrev pub offset_to : ℕ → ℕ → ℤ
offset_to target place = pos target -ℤ pos place

-- the target of an instruction at a place: an offset with a sign, a place in digits, or otherwise a label
unfoldable pub aim_read : ℕ → Word → Result Aim Fault
aim_read place word =
    if begins_with 43 word then number_or (option_map offset_aim (forward_of (but_first word)))
    else (if begins_with 45 word then number_or (option_map offset_aim (backward_of (but_first word)))
    else (if is_ascii_digit (slice_index word 0)
    then number_or
    (option_map offset_aim (option_map (λ target. offset_to target place) (number_within 0 2147483647 word)))
    else (if is_name word then Ok (record { offset = pos 0; label = Some word }) else Err WrongForm)))

-- an instruction, and the label that is its target, if it has one
pub record Coded : Type 0 where
  pub instr : Instr
  pub label : Option Word

-- Each instruction, from the words after its first. Registers, banks, operations and comparisons come first, then
-- numbers.

unfoldable pub li_read : List Word → Result Instr Fault
li_read (rd ∷ value ∷ []) = do
  rd ← form (register_of rd)
  value ← number_or (constant_of value)
  Ok (Li rd value)
li_read _ = Err WrongForm

abbrev pub operation_read : Op → (rd ra rb : Word) → Result Instr Fault
operation_read op rd ra rb = do
  rd ← form (register_of rd)
  ra ← form (register_of ra)
  rb ← form (register_of rb)
  Ok (Alu op rd ra rb)

unfoldable pub alu_read : Op → List Word → Result Instr Fault
alu_read op (rd ∷ ra ∷ rb ∷ []) = operation_read op rd ra rb
alu_read op _ = Err WrongForm

abbrev pub load_read : ℕ → (slot bank reg : Word) → Result Instr Fault
load_read banks slot bank reg = do
  bank ← form (bank_named bank)
  reg ← form (register_of reg)
  slot ← number_or (slot_named slot)
  there ← unless_not Number (nat_lt bank banks)
  Ok (Ldb slot bank reg)

unfoldable pub ldb_read : ℕ → List Word → Result Instr Fault
ldb_read banks (slot ∷ bank ∷ reg ∷ []) = load_read banks slot bank reg
ldb_read banks _ = Err WrongForm

unfoldable pub stb_read : List Word → Result Instr Fault
stb_read (slot ∷ []) = do
  slot ← number_or (slot_named slot)
  Ok (Stb slot)
stb_read _ = Err WrongForm

unfoldable pub idb_read : List Word → Result Instr Fault
idb_read (rd ∷ slot ∷ []) = do
  rd ← form (register_of rd)
  slot ← number_or (slot_named slot)
  Ok (Idb rd slot)
idb_read _ = Err WrongForm

-- a register, a slot and a register
abbrev pub access_at_read : (reg slot off : Word) → Result (ℕ × ℕ × ℕ) Fault
access_at_read reg slot off = do
  reg ← form (register_of reg)
  off ← form (register_of off)
  slot ← number_or (slot_named slot)
  Ok (reg, slot, off)

unfoldable pub access_read : List Word → Result (ℕ × ℕ × ℕ) Fault
access_read (reg ∷ slot ∷ off ∷ []) = access_at_read reg slot off
access_read _ = Err WrongForm

abbrev pub ldw_read : List Word → Result Instr Fault
ldw_read words = access_read words >>= (λ x. Ok (Ldw x.0 x.1 x.2))

abbrev pub stw_read : List Word → Result Instr Fault
stw_read words = access_read words >>= (λ x. Ok (Stw x.0 x.1 x.2))

-- an arrow
abbrev pub arrow_read : Word → Result (Unit {0}) Fault
arrow_read word = unless_not WrongForm (bytes_eq word (codes "->"))

-- a jump to the target that follows an arrow
abbrev pub jump_read : ℕ → (arrow target : Word) → Result Coded Fault
jump_read place arrow target = do
  there ← arrow_read arrow
  aim ← aim_read place target
  Ok (record { instr = Jmp aim.offset; label = aim.label })

unfoldable pub jmp_read : ℕ → List Word → Result Coded Fault
jmp_read place (arrow ∷ target ∷ []) = jump_read place arrow target
jmp_read place _ = Err WrongForm

-- a branch to the target that follows an arrow
abbrev pub branch_to_read : ℕ → Cmp → ℕ → ℕ → (arrow target : Word) → Result Coded Fault
branch_to_read place cmp ra rb arrow target = do
  there ← arrow_read arrow
  aim ← aim_read place target
  Ok (record { instr = Br cmp ra rb aim.offset; label = aim.label })

abbrev pub branch_read : ℕ → (cmp ra rb arrow target : Word) → Result Coded Fault
branch_read place cmp ra rb arrow target = do
  cmp ← form (cmp_named cmp)
  ra ← form (register_of ra)
  rb ← form (register_of rb)
  branch_to_read place cmp ra rb arrow target

unfoldable pub br_read : ℕ → List Word → Result Coded Fault
br_read place (cmp ∷ ra ∷ rb ∷ arrow ∷ target ∷ []) = branch_read place cmp ra rb arrow target
br_read place _ = Err WrongForm

-- an instruction of one word
abbrev pub bare_read : Instr → List Word → Result Instr Fault
bare_read i [] = Ok i
bare_read i (word ∷ words) = Err WrongForm

-- an instruction without a target
abbrev pub untargeted_read : ℕ → Mnemonic → List Word → Result Instr Fault
untargeted_read banks mnemonic.Nop words = bare_read Nop words
untargeted_read banks mnemonic.Halt words = bare_read Halt words
untargeted_read banks mnemonic.Li words = li_read words
untargeted_read banks (mnemonic.Alu op) words = alu_read op words
untargeted_read banks mnemonic.Ldb words = ldb_read banks words
untargeted_read banks mnemonic.Stb words = stb_read words
untargeted_read banks mnemonic.Idb words = idb_read words
untargeted_read banks mnemonic.Ldw words = ldw_read words
untargeted_read banks mnemonic.Stw words = stw_read words
untargeted_read banks mnemonic.Jmp words = Err WrongForm
untargeted_read banks mnemonic.Br words = Err WrongForm

abbrev pub without_target : Result Instr Fault → Result Coded Fault
without_target instr = instr >>= (λ i. Ok (record { instr = i; label = None }))

abbrev pub operands_read : ℕ → ℕ → Mnemonic → List Word → Result Coded Fault
operands_read banks place mnemonic.Jmp words = jmp_read place words
operands_read banks place mnemonic.Br words = br_read place words
operands_read banks place m words = without_target (untargeted_read banks m words)

-- the instruction of a line at a place of the code, in an object with this number of banks
unfoldable pub instruction_read : ℕ → ℕ → List Word → Result Coded Fault
instruction_read banks place [] = Err WrongForm
instruction_read banks place (word ∷ words) = do
  mnemonic ← form (mnemonic_named word)
  operands_read banks place mnemonic words

-- Whether a line has the form of an instruction. Its numbers don't matter, nor do the number of banks and the place.
abbrev pub is_of_form : Result Coded Fault → Bool
is_of_form (Ok coded) = true
is_of_form (Err WrongForm) = false
is_of_form (Err Number) = true
is_of_form (Err RepeatedName) = true
is_of_form (Err Limit) = true
is_of_form (Err Memory) = true

unfoldable pub is_instruction : List Word → Bool
is_instruction words = is_of_form (instruction_read 2 0 words)
