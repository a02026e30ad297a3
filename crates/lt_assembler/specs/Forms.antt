-- The forms of lines: the words of each, with any words for its numbers. (This project's profile.)
use Rattle.std.specs.Prelude.{◌≡◌, ℕ, ◌^◌, ◌<◌, ◌≤◌, ◌⊎◌, Bool, ◌||◌, List, [], ◌∷◌, ◌++◌, length, codes, IsTrue, slice_index}
use Rattle.std.specs.Char.{is_ascii_digit}
use Rattle.gr_word.specs.declared.operations.Op.{Op}
use Rattle.gr_word.specs.declared.operations.Cmp.{Cmp}
use Rattle.gr_word.specs.declared.variables.Label.{Label}
use Rattle.gr_word.specs.declared.variables.Shape.{Shape}
use Rattle.gr_word.specs.Names.{is_name}
use Rattle.gr_base.specs.Lists.{Within}
use Rattle.lt_isa.specs.Limits.{fewest_banks, most_banks}
use Rattle.lt_isa.specs.InstructionTable.{op_word, cmp_word}
use Rattle.lt_isa.specs.Ranges.{IsRegister, next_place}
use Rattle.lt_assembler.specs.Words.{Word, label_word, shape_word, register_word, bank_word, hex_word}
use Rattle.lt_assembler.specs.Lines.{words, is_ascii_line}
use Rattle.lt_assembler.specs.Numbers.{begins_with}
use Rattle.lt_assembler.specs.Earlier.{Earlier}

-- A target that begins with '+', '-' or a digit is a number; any other target is a name.
abbrev pub is_number_word : Word → Bool
is_number_word word = begins_with 43 word || (begins_with 45 word || is_ascii_digit (slice_index word 0))

abbrev pub IsTarget : Word → Type 0
IsTarget word = IsTrue (is_number_word word || is_name word)

-- The words of an instruction, with any words for its constant and its slots.
-- Rule: assembly/instruction.
pub data HasInstructionForm : List Word → Type 0 where
  Nop : HasInstructionForm (codes "nop" ∷ [])
  Halt : HasInstructionForm (codes "halt" ∷ [])
  Li : (rd : ℕ) → (value : Word) → IsRegister rd → HasInstructionForm (codes "li" ∷ register_word rd ∷ value ∷ [])
  Alu : (op : Op) → (rd ra rb : ℕ) → IsRegister rd → IsRegister ra → IsRegister rb
      → HasInstructionForm (op_word op ∷ register_word rd ∷ register_word ra ∷ register_word rb ∷ [])
  Ldb : (slot : Word) → (bank reg : ℕ) → bank < most_banks → IsRegister reg
      → HasInstructionForm (codes "ldb" ∷ slot ∷ bank_word bank ∷ register_word reg ∷ [])
  Stb : (slot : Word) → HasInstructionForm (codes "stb" ∷ slot ∷ [])
  Idb : (rd : ℕ) → (slot : Word) → IsRegister rd → HasInstructionForm (codes "idb" ∷ register_word rd ∷ slot ∷ [])
  Ldw : (rd ro : ℕ) → (slot : Word) → IsRegister rd → IsRegister ro
      → HasInstructionForm (codes "ldw" ∷ register_word rd ∷ slot ∷ register_word ro ∷ [])
  Stw : (rs ro : ℕ) → (slot : Word) → IsRegister rs → IsRegister ro
      → HasInstructionForm (codes "stw" ∷ register_word rs ∷ slot ∷ register_word ro ∷ [])
  Jmp : (target : Word) → IsTarget target → HasInstructionForm (codes "jmp" ∷ codes "->" ∷ target ∷ [])
  Br : (cmp : Cmp) → (ra rb : ℕ) → (target : Word) → IsRegister ra → IsRegister rb → IsTarget target
      → HasInstructionForm
      (codes "br" ∷ cmp_word cmp ∷ register_word ra ∷ register_word rb ∷ codes "->" ∷ target ∷ [])

-- some line has the form of an instruction
abbrev pub InstructionFollows : List (List ℕ) → Type 0
InstructionFollows [] = ⊥
InstructionFollows (line ∷ lines) =
    (IsTrue (is_ascii_line line) × HasInstructionForm (words line)) ⊎ InstructionFollows lines

-- Some words have a form that is allowed after what was read, with these lines to come. The first line comes once; then
-- banks, symbols and code follow in this order. Symbols and code need two banks before them. A note needs an
-- instruction after it, and no other note at the same place.
-- Rules: assembly/object-line, assembly/bank-line, assembly/symbol-line, assembly/label, assembly/note-line.
pub data HasForm (e : Earlier) (after : List (List ℕ)) : List Word → Type 0 where
  Empty : HasForm e after []
  Object : (version block_log alu mul word taken : Word) → e.stage ≡ 0
      → HasForm e after (codes ".object" ∷ version ∷ block_log ∷ alu ∷ mul ∷ word ∷ taken ∷ [])
  Windowed : (version block_log alu mul word taken period opens closes : Word) → e.stage ≡ 0
      → HasForm e after
      (codes ".object" ∷ version ∷ block_log ∷ alu ∷ mul ∷ word ∷ taken ∷ period ∷ opens ∷ closes ∷ [])
  Bank : (blocks latency : Word) → Within 1 2 e.stage → HasForm e after (codes ".bank" ∷ blocks ∷ latency ∷ [])
  Variable : (name : Word) → (label : Label) → (shape : Shape) → (bank block word size : Word) → IsTrue (is_name name)
      → Within 2 3 e.stage → fewest_banks ≤ length e.banks
      → HasForm e after
      (codes ".symbol" ∷ name ∷ label_word label ∷ shape_word shape ∷ bank ∷ block ∷ word ∷ size ∷ [])
  Labelled : (name : Word) → IsTrue (is_name name)
      → fewest_banks ≤ length e.banks → HasForm e after ((name ++ codes ":") ∷ [])
  Noted : (mask : ℕ) → (claims : List Word) → mask < 2 ^ 32 → length claims ≡ 8 → fewest_banks ≤ length e.banks
      → next_place e.notes ≤ e.place → InstructionFollows after
      → HasForm e after (codes ".note" ∷ hex_word 8 mask ∷ claims)
  Instruction : (words : List Word)
      → HasInstructionForm words → fewest_banks ≤ length e.banks → HasForm e after words
