-- The table of instructions: what an opcode and a mnemonic name, and what the operand fields after it hold.
-- (GhostRider, ASPLOS 2015, has the instructions; opcodes, mnemonics and fields are this project's profile.)
use Rattle.std.specs.Prelude.{ℕ, ◌-◌, ◌^◌, ◌==◌, Bool, true, false, if◌then◌else◌, ℤ, pos, List, [], ◌∷◌, ◌++◌, Option, map, find, codes}
use Rattle.gr_word.specs.declared.operations.Op.{Op}
use Rattle.gr_word.specs.declared.operations.Op.TheVariants.{Add, Sub, Mul, Div, Rem, Remu, And, Or, Xor, Shl, Shr}
use Rattle.gr_word.specs.declared.operations.Cmp.{Cmp}
use Rattle.gr_word.specs.declared.operations.Cmp.TheVariants.{Eq, Ne, Lt, Le, Gt, Ge}
use Rattle.lt_isa.specs.declared.instructions.Instr.{Instr}
use Rattle.lt_isa.specs.declared.instruction_table.Kind.{Kind}
use Rattle.lt_isa.specs.declared.instruction_table.Kind.TheVariants.{Nop, Halt, Li, Ldb, Stb, Idb, Ldw, Stw, Jmp, Alu, Br}
use Rattle.lt_isa.specs.declared.instruction_table.Operand.{Operand}
use Rattle.lt_isa.specs.declared.instruction_table.Operand.TheVariants.{Unused, Register, Slot, Bank}
use Rattle.lt_isa.specs.declared.instruction_table.Format.{Format}
use Rattle.lt_isa.specs.declared.instruction_table.Limits.{Limits}
use Rattle.lt_isa.specs.declared.instruction_table.Operands.{Operands}
use Rattle.lt_isa.specs.declared.instructions.Instr.TheVariants as instr

-- all operations, all comparisons, and all kinds of instruction, in the order of their opcodes
abbrev pub operations : List Op
operations = Add ∷ Sub ∷ Mul ∷ Div ∷ Rem ∷ Remu ∷ And ∷ Or ∷ Xor ∷ Shl ∷ Shr ∷ []

abbrev pub comparisons : List Cmp
comparisons = Eq ∷ Ne ∷ Lt ∷ Le ∷ Gt ∷ Ge ∷ []

abbrev pub kinds : List Kind
kinds = Nop ∷ Halt ∷ Li ∷ Ldb ∷ Stb ∷ Idb ∷ Ldw ∷ Stw ∷ Jmp ∷ map Alu operations ++ map Br comparisons

-- operations have the opcodes from 16 on, and branches those from 32 on
abbrev pub operation_code : Op → ℕ
operation_code Add = 16
operation_code Sub = 17
operation_code Mul = 18
operation_code Div = 19
operation_code Rem = 20
operation_code Remu = 21
operation_code And = 22
operation_code Or = 23
operation_code Xor = 24
operation_code Shl = 25
operation_code Shr = 26

abbrev pub comparison_code : Cmp → ℕ
comparison_code Eq = 32
comparison_code Ne = 33
comparison_code Lt = 34
comparison_code Le = 35
comparison_code Gt = 36
comparison_code Ge = 37

abbrev pub opcode_of : Kind → ℕ
opcode_of Nop = 0
opcode_of Halt = 1
opcode_of Li = 2
opcode_of Ldb = 3
opcode_of Stb = 4
opcode_of Idb = 5
opcode_of Ldw = 6
opcode_of Stw = 7
opcode_of Jmp = 8
opcode_of (Alu op) = operation_code op
opcode_of (Br cmp) = comparison_code cmp

-- the kind of instruction that an opcode names, if it names one
-- Rules: encoding/nop, encoding/halt, encoding/li, encoding/ldb, encoding/stb, encoding/idb, encoding/ldw,
-- encoding/stw, encoding/jmp, encoding/operation, encoding/br.
unfoldable pub kind_named : ℕ → Option Kind
kind_named n = find (λ k. n == opcode_of k) kinds

-- the words of operations and comparisons in assembly text, and the first word of each instruction there
abbrev pub op_word : Op → List ℕ
op_word Add = codes "add"
op_word Sub = codes "sub"
op_word Mul = codes "mul"
op_word Div = codes "div"
op_word Rem = codes "rem"
op_word Remu = codes "remu"
op_word And = codes "and"
op_word Or = codes "or"
op_word Xor = codes "xor"
op_word Shl = codes "shl"
op_word Shr = codes "shr"

abbrev pub cmp_word : Cmp → List ℕ
cmp_word Eq = codes "eq"
cmp_word Ne = codes "ne"
cmp_word Lt = codes "lt"
cmp_word Le = codes "le"
cmp_word Gt = codes "gt"
cmp_word Ge = codes "ge"

abbrev pub mnemonic_of : Kind → List ℕ
mnemonic_of Nop = codes "nop"
mnemonic_of Halt = codes "halt"
mnemonic_of Li = codes "li"
mnemonic_of Ldb = codes "ldb"
mnemonic_of Stb = codes "stb"
mnemonic_of Idb = codes "idb"
mnemonic_of Ldw = codes "ldw"
mnemonic_of Stw = codes "stw"
mnemonic_of Jmp = codes "jmp"
mnemonic_of (Alu op) = op_word op
mnemonic_of (Br cmp) = codes "br"

-- what the fields a, b and c hold, in an instruction that has neither an offset nor a constant
abbrev pub small_operands : Operand → Operand → Operand → Format
small_operands a b c = record { a = a; b = b; c = c; offset = false; constant = false }

abbrev pub format_of : Kind → Format
format_of Nop = small_operands Unused Unused Unused
format_of Halt = small_operands Unused Unused Unused
format_of Li = record (small_operands Register Unused Unused) { constant = true }
format_of Ldb = small_operands Slot Bank Register
format_of Stb = small_operands Slot Unused Unused
format_of Idb = small_operands Register Slot Unused
format_of Ldw = small_operands Register Slot Register
format_of Stw = small_operands Register Slot Register
format_of Jmp = record (small_operands Unused Unused Unused) { offset = true }
format_of (Alu op) = small_operands Register Register Register
format_of (Br cmp) = record (small_operands Register Register Unused) { offset = true }

-- the greatest value of a field, in an object with this number of banks: a field that isn't used is 0
abbrev pub most_operand : ℕ → Operand → ℕ
most_operand banks Unused = 0
most_operand banks Register = 31
most_operand banks Slot = 7
most_operand banks Bank = banks - 1

-- the greatest value of a field of this many bits, if it is used, and 0 otherwise
abbrev pub most_bits : ℕ → Bool → ℕ
most_bits bits used = if used then 2 ^ bits - 1 else 0

abbrev pub limits_of : ℕ → Kind → Limits
limits_of banks kind = record {
  a = most_operand banks (format_of kind).a;
  b = most_operand banks (format_of kind).b;
  c = most_operand banks (format_of kind).c;
  offset = most_bits 32 (format_of kind).offset;
  constant = most_bits 64 (format_of kind).constant;
}

-- an instruction's kind and its operands; those that it doesn't use are 0
abbrev pub kind_of : Instr → Kind
kind_of instr.Nop = Nop
kind_of instr.Halt = Halt
kind_of (instr.Li rd value) = Li
kind_of (instr.Alu op rd ra rb) = Alu op
kind_of (instr.Ldb k b r) = Ldb
kind_of (instr.Stb k) = Stb
kind_of (instr.Idb rd k) = Idb
kind_of (instr.Ldw rd k ro) = Ldw
kind_of (instr.Stw rs k ro) = Stw
kind_of (instr.Jmp offset) = Jmp
kind_of (instr.Br cmp ra rb offset) = Br cmp

abbrev pub operand_numbers : ℕ → ℕ → ℕ → Operands
operand_numbers a b c = record { a = a; b = b; c = c; offset = pos 0; constant = pos 0 }

abbrev pub operands_of : Instr → Operands
operands_of instr.Nop = operand_numbers 0 0 0
operands_of instr.Halt = operand_numbers 0 0 0
operands_of (instr.Li rd value) = record (operand_numbers rd 0 0) { constant = value }
operands_of (instr.Alu op rd ra rb) = operand_numbers rd ra rb
operands_of (instr.Ldb k b r) = operand_numbers k b r
operands_of (instr.Stb k) = operand_numbers k 0 0
operands_of (instr.Idb rd k) = operand_numbers rd k 0
operands_of (instr.Ldw rd k ro) = operand_numbers rd k ro
operands_of (instr.Stw rs k ro) = operand_numbers rs k ro
operands_of (instr.Jmp offset) = record (operand_numbers 0 0 0) { offset = offset }
operands_of (instr.Br cmp ra rb offset) = record (operand_numbers ra rb 0) { offset = offset }

-- the instruction of a kind with these operands, of which it takes those that it uses
abbrev pub instruction_of : Kind → Operands → Instr
instruction_of Nop x = instr.Nop
instruction_of Halt x = instr.Halt
instruction_of Li x = instr.Li x.a x.constant
instruction_of Ldb x = instr.Ldb x.a x.b x.c
instruction_of Stb x = instr.Stb x.a
instruction_of Idb x = instr.Idb x.a x.b
instruction_of Ldw x = instr.Ldw x.a x.b x.c
instruction_of Stw x = instr.Stw x.a x.b x.c
instruction_of Jmp x = instr.Jmp x.offset
instruction_of (Alu op) x = instr.Alu op x.a x.b x.c
instruction_of (Br cmp) x = instr.Br cmp x.a x.b x.offset

-- an instruction with another offset, if it has one
abbrev pub with_offset : ℤ → Instr → Instr
with_offset offset i = instruction_of (kind_of i) (record (operands_of i) { offset = offset })
