-- The canonical text of an object: no empty lines, no comments and no labels, words separated by one space, each note
-- directly before its instruction, and targets as offsets (this project's profile).
use Rattle.std.specs.Prelude.{ℕ, ◌+◌, ◌==◌, Bool, false, if◌then◌else◌, List, [], ◌∷◌, ◌++◌, map, flat_map, codes, decimal}
use Rattle.std.specs.Fmt.{signed_decimal}
use Rattle.std.specs.List.{join_with_byte}
use Rattle.lt_isa.specs.declared.profiles.Profile.{Profile}
use Rattle.lt_isa.specs.declared.profiles.BankSpec.{BankSpec}
use Rattle.lt_isa.specs.declared.symbols.Symbol.{Symbol}
use Rattle.lt_isa.specs.declared.symbols.Note.{Note}
use Rattle.lt_isa.specs.declared.instructions.Instr.{Instr}
use Rattle.lt_isa.specs.declared.instructions.Instr.TheVariants.{Nop, Halt, Li, Alu, Ldb, Stb, Idb, Ldw, Stw, Jmp, Br}
use Rattle.lt_isa.specs.Object.{Parts}
use Rattle.lt_isa.specs.Windows.{has_unit_period}
use Rattle.lt_isa.specs.InstructionTable.{op_word, cmp_word}
use Rattle.lt_assembler.specs.Words.{Word, label_word, shape_word, register_word, bank_word, claim_word, hex_word, offset_word}

-- the words of each line

abbrev pub cycles_words : Profile → List Word
cycles_words p =
    decimal p.block_log ∷ decimal p.alu ∷ decimal p.mul ∷ decimal p.word ∷ decimal p.taken ∷ []

abbrev pub window_words : Profile → List Word
window_words p = decimal p.period ∷ decimal p.opens ∷ decimal p.closes ∷ []

-- version 1 if the period is one cycle, and otherwise version 2, with the window
abbrev pub profile_words : Profile → List Word
profile_words p =
    if has_unit_period p then codes "1" ∷ cycles_words p
    else codes "2" ∷ (cycles_words p ++ window_words p)

abbrev pub object_words : Profile → List Word
object_words p = codes ".object" ∷ profile_words p

abbrev pub words_for_bank : BankSpec → List Word
words_for_bank b = codes ".bank" ∷ decimal b.blocks ∷ decimal b.latency ∷ []

abbrev pub words_for_symbol : Symbol → List Word
words_for_symbol s =
    codes ".symbol" ∷ s.name ∷ label_word s.label ∷ shape_word s.shape
    ∷ decimal s.bank ∷ decimal s.block ∷ decimal s.word ∷ decimal s.length ∷ []

abbrev pub note_words : Note → List Word
note_words n = codes ".note" ∷ hex_word 8 n.secrets ∷ map claim_word n.slots

abbrev pub instruction_words : Instr → List Word
instruction_words Nop = codes "nop" ∷ []
instruction_words Halt = codes "halt" ∷ []
instruction_words (Li rd value) = codes "li" ∷ register_word rd ∷ signed_decimal value ∷ []
instruction_words (Alu op rd ra rb) = op_word op ∷ register_word rd ∷ register_word ra ∷ register_word rb ∷ []
instruction_words (Ldb k b r) = codes "ldb" ∷ decimal k ∷ bank_word b ∷ register_word r ∷ []
instruction_words (Stb k) = codes "stb" ∷ decimal k ∷ []
instruction_words (Idb rd k) = codes "idb" ∷ register_word rd ∷ decimal k ∷ []
instruction_words (Ldw rd k ro) = codes "ldw" ∷ register_word rd ∷ decimal k ∷ register_word ro ∷ []
instruction_words (Stw rs k ro) = codes "stw" ∷ register_word rs ∷ decimal k ∷ register_word ro ∷ []
instruction_words (Jmp offset) = codes "jmp" ∷ codes "->" ∷ offset_word offset ∷ []
instruction_words (Br cmp ra rb offset) =
    codes "br" ∷ cmp_word cmp ∷ register_word ra ∷ register_word rb ∷ codes "->" ∷ offset_word offset ∷ []

-- whether the first of some notes is at a place
abbrev pub starts_at : List Note → ℕ → Bool
starts_at [] place = false
starts_at (n ∷ notes) place = n.pc == place

-- the notes after the first
abbrev pub behind_first : List Note → List Note
behind_first [] = []
behind_first (n ∷ notes) = notes

-- the line of the first of some notes
abbrev pub first_note : List Note → List (List Word)
first_note [] = []
first_note (n ∷ notes) = note_words n ∷ []

-- the instructions from a place on, each after the note at its place
abbrev pub code_words : List Note → ℕ → List Instr → List (List Word)
code_words notes place [] = []
code_words notes place (i ∷ code) =
    if starts_at notes place
    then first_note notes ++ instruction_words i ∷ code_words (behind_first notes) (place + 1) code
    else instruction_words i ∷ code_words notes (place + 1) code

-- the words of all lines of an object
abbrev pub object_lines : Parts → List (List Word)
object_lines o =
    object_words o.profile ∷ map words_for_bank o.banks ++ map words_for_symbol o.symbols ++ code_words o.notes 0 o.code

-- a line of words
abbrev pub line : List Word → List ℕ
line words = join_with_byte 32 words ++ 10 ∷ []

unfoldable pub canonical : Parts → List ℕ
canonical o = flat_map line (object_lines o)
