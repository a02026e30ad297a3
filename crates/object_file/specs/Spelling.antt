-- The one encoding of an object (this project's profile). Numbers have their lowest byte first, and there are no gaps
-- between fields.
use Rattle.std.specs.Prelude.{ℕ, if◌then◌else◌, List, [], ◌++◌, length, codes, flat_map}
use Rattle.std.specs.Int.{w32, w64, cast_unsigned}
use Rattle.byteorder.specs.Endian.{little_bytes}
use Rattle.gr_word.specs.declared.variables.Label.{Label}
use Rattle.gr_word.specs.declared.variables.Label.TheVariants.{Public, Secret}
use Rattle.gr_word.specs.declared.variables.Shape.{Shape}
use Rattle.gr_word.specs.declared.variables.Shape.TheVariants.{Scalar, Array}
use Rattle.lt_isa.specs.declared.profiles.Profile.{Profile}
use Rattle.lt_isa.specs.declared.profiles.BankSpec.{BankSpec}
use Rattle.lt_isa.specs.declared.symbols.Symbol.{Symbol}
use Rattle.lt_isa.specs.declared.symbols.Note.{Note}
use Rattle.lt_isa.specs.declared.instructions.Instr.{Instr}
use Rattle.lt_isa.specs.declared.instruction_table.Operands.{Operands}
use Rattle.lt_isa.specs.InstructionTable.{opcode_of, kind_of, operands_of}
use Rattle.lt_isa.specs.Object.{Parts}
use Rattle.lt_isa.specs.Windows.{has_unit_period}

-- a number in n bytes
unfoldable pub number : ℕ → ℕ → List ℕ
number n x = little_bytes n x

-- the number of items in n bytes, and then the items
unfoldable pub listed : {X : Type 0} → ℕ → (X → List ℕ) → List X → List ℕ
listed n text items = number n (length items) ++ flat_map text items

-- the bytes with which every object file begins
abbrev pub magic : List ℕ
magic = codes "GRLT"

-- the version of the format in which an object is encoded: 1 exactly if its period is one cycle
abbrev pub version_of : Profile → ℕ
version_of p = if has_unit_period p then 1 else 2

-- the size of blocks, and cycles of instructions
unfoldable pub cycles : Profile → List ℕ
cycles p = number 1 p.block_log ++ number 1 p.alu ++ number 1 p.mul ++ number 1 p.word ++ number 1 p.taken

-- the window of each period
unfoldable pub window : Profile → List ℕ
window p = number 4 p.period ++ number 4 p.opens ++ number 4 p.closes

-- the version and a profile; version 1 has no window
unfoldable pub profile : Profile → List ℕ
profile p = number 2 (version_of p) ++ cycles p ++ (if has_unit_period p then [] else window p)

abbrev pub bank : BankSpec → List ℕ
bank b = number 4 b.blocks ++ number 4 b.latency

abbrev pub label_code : Label → ℕ
label_code Public = 0
label_code Secret = 1

abbrev pub shape_code : Shape → ℕ
shape_code Scalar = 0
shape_code Array = 1

-- a length and as many bytes
unfoldable pub name : List ℕ → List ℕ
name bytes = number 1 (length bytes) ++ bytes

abbrev pub symbol : Symbol → List ℕ
symbol s =
    name s.name ++ number 1 (label_code s.label) ++ number 1 (shape_code s.shape)
    ++ number 1 s.bank ++ number 4 s.block ++ number 2 s.word ++ number 4 s.length

abbrev pub note : Note → List ℕ
note n = number 4 n.pc ++ number 4 n.secrets ++ flat_map (number 1) n.slots

-- the fields of an instruction: the opcode and the operands
abbrev pub opcode_and_operands : ℕ → Operands → List ℕ
opcode_and_operands opcode x =
    number 1 opcode ++ number 1 x.a ++ number 1 x.b ++ number 1 x.c
    ++ number 4 (cast_unsigned w32 x.offset) ++ number 8 (cast_unsigned w64 x.constant)

unfoldable pub instruction : Instr → List ℕ
instruction i = opcode_and_operands (opcode_of (kind_of i)) (operands_of i)

unfoldable pub spelling : Parts → List ℕ
spelling o =
    magic ++ profile o.profile ++ listed 1 bank o.banks ++ listed 2 symbol o.symbols
    ++ listed 4 note o.notes ++ listed 4 instruction o.code
