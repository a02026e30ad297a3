-- The laws of reading instructions.
use Rattle.std.proofs.Common.{◌≡◌, ℕ, Bool, true, false, ◌-◌, ◌^◌, ◌<◌, ◌≤◌, ℤ, pos, List, [], ◌++◌, length, Option, Some, None, Ok, refl, subst, append_assoc, arith, FitsSigned}
use Rattle.std.specs.Prelude.{All}
use Rattle.std.specs.Int.{Width, w32, w64, cast_signed, cast_unsigned}
use Rattle.std.proofs.Math.Facts.{sfits_to_z, Fits-of_z}
use Rattle.std.proofs.lemmas.Nat.{pow_pos}
use Rattle.std.proofs.lemmas.Int.{to_z-of_z, of_z-to_z}
use Rattle.lt_isa.specs.declared.instructions.Instr.{Instr}
use Rattle.lt_isa.specs.declared.instruction_table.Kind.{Kind}
use Rattle.lt_isa.specs.declared.instruction_table.Kind.TheVariants.{Nop, Halt, Li, Ldb, Stb, Idb, Ldw, Stw, Jmp, Alu, Br}
use Rattle.lt_isa.specs.declared.instruction_table.Operand.{Operand}
use Rattle.lt_isa.specs.declared.instruction_table.Operand.TheVariants.{Unused, Register, Slot, Bank}
use Rattle.lt_isa.specs.declared.instruction_table.Operands.{Operands}
use Rattle.lt_isa.specs.declared.instruction_table.Limits.{Limits}
use Rattle.lt_isa.specs.Prelude.{opcode_of, kind_named, format_of, limits_of, most_bits, most_operand, kind_of, operand_numbers, operands_of, instruction_of, InstrFits}
use Rattle.lt_isa.proofs.InstructionTable.{opcode_of_named, kind_of_opcode, opcode_of-lt, instruction_again as instruction_again_of}
use Rattle.gr_base.specs.Prelude.{Within, is_within}
use Rattle.object_file.specs.Prelude.{number, listed, instruction, place, field_at, known, kind_at, instruction_at, code_at}
use Rattle.object_file.proofs.Numbers.{IsBytes}
use Rattle.gr_base.proofs.Results.{IfRead, read_ok, read_err, read_then, read_weaker}
use Rattle.object_file.proofs.Readers.{Takes, Takes-then, Found, IsReader, number_read, number_again, range}
use Rattle.object_file.proofs.ListLaws.{list, All-EachAfter, EachAfter-All}
use Rattle.lt_isa.specs.declared.instructions.Instr.TheVariants as instr

kind_read : (all : ℕ) (bytes : List ℕ) → IsBytes bytes
    → IfRead (kind_at all bytes) (λ x. Takes bytes (number 1 (opcode_of x.0)) x.1)
unfolding kind_at
kind_read all bytes fits =
    read_then _ _ _ _ (number_read 1 all bytes fits)
    (λ opcode a. known_read opcode.0 (place all bytes) opcode.1 (kind_named opcode.0) refl a.0)
  where
    known_read : (n at : ℕ) (rest : List ℕ) (kind : Option Kind) → kind_named n ≡ kind
        → Takes bytes (number 1 n) rest
        → IfRead (known at rest kind) (λ x. Takes bytes (number 1 (opcode_of x.0)) x.1)
    known_read n at rest None e takes = read_err _ _
    known_read n at rest (Some kind) e takes =
        read_ok _ _ (subst (λ m. Takes bytes (number 1 m) rest) (opcode_of_named n kind e) takes)

kind_again : (all : ℕ) (kind : Kind) (rest : List ℕ) → kind_at all (number 1 (opcode_of kind) ++ rest) ≡ Ok (kind, rest)
unfolding kind_at
kind_again all kind rest =
    rw (number_again 1 all (opcode_of kind) rest (omega (arith, opcode_of-lt kind)), kind_of_opcode kind) refl

-- operands

-- the operand fields are within the limits of a kind
record AreOperands (banks : ℕ) (kind : Kind) (a b c offset constant : ℕ) : Type 0 where
  pub a_fits : a ≤ (limits_of banks kind).a
  pub b_fits : b ≤ (limits_of banks kind).b
  pub c_fits : c ≤ (limits_of banks kind).c
  pub offset_fits : offset ≤ (limits_of banks kind).offset
  pub constant_fits : constant ≤ (limits_of banks kind).constant

abbrev signed_operands : ℕ → ℕ → ℕ → ℕ → ℕ → Operands
signed_operands a b c offset constant =
    record { a = a; b = b; c = c; offset = cast_signed w32 offset; constant = cast_signed w64 constant }

abbrev made : Kind → ℕ → ℕ → ℕ → ℕ → ℕ → Instr
made kind a b c offset constant = instruction_of kind (signed_operands a b c offset constant)

none : (n : ℕ) → n ≤ 0 → n ≡ 0
none n h = omega arith

operands_of-made : (banks : ℕ) (kind : Kind) (a b c offset constant : ℕ) → AreOperands banks kind a b c offset constant
    → operands_of (made kind a b c offset constant) ≡ signed_operands a b c offset constant
operands_of-made banks Nop a b c offset constant h =
    rw (none a h.a_fits, none b h.b_fits, none c h.c_fits, none offset h.offset_fits, none constant h.constant_fits)
    refl
operands_of-made banks Halt a b c offset constant h =
    rw (none a h.a_fits, none b h.b_fits, none c h.c_fits, none offset h.offset_fits, none constant h.constant_fits)
    refl
operands_of-made banks Li a b c offset constant h =
    rw (none b h.b_fits, none c h.c_fits, none offset h.offset_fits) refl
operands_of-made banks Stb a b c offset constant h =
    rw (none b h.b_fits, none c h.c_fits, none offset h.offset_fits, none constant h.constant_fits) refl
operands_of-made banks Idb a b c offset constant h =
    rw (none c h.c_fits, none offset h.offset_fits, none constant h.constant_fits) refl
operands_of-made banks Jmp a b c offset constant h =
    rw (none a h.a_fits, none b h.b_fits, none c h.c_fits, none constant h.constant_fits) refl
operands_of-made banks (Br cmp) a b c offset constant h = rw (none c h.c_fits, none constant h.constant_fits) refl
operands_of-made banks other a b c offset constant h = rw (none offset h.offset_fits, none constant h.constant_fits) refl

is_offset : (n : ℕ) → n ≤ 2 ^ 32 - 1 → FitsSigned w32 (cast_signed w32 n)
is_offset n h = sfits_to_z (record { fits = omega arith })

is_word : (n : ℕ) → n ≤ 2 ^ 64 - 1 → FitsSigned w64 (cast_signed w64 n)
is_word n h = sfits_to_z (record { fits = omega arith })

made-fits : (banks : ℕ) (kind : Kind) (a b c offset constant : ℕ) → 2 ≤ banks
    → AreOperands banks kind a b c offset constant → InstrFits banks (made kind a b c offset constant)
made-fits banks Nop a b c offset constant some h = tt
made-fits banks Halt a b c offset constant some h = tt
made-fits banks Li a b c offset constant some h = (omega (arith, h.a_fits), is_word constant h.constant_fits)
made-fits banks Stb a b c offset constant some h = omega (arith, h.a_fits)
made-fits banks Idb a b c offset constant some h = (omega (arith, h.a_fits), omega (arith, h.b_fits))
made-fits banks Jmp a b c offset constant some h = is_offset offset h.offset_fits
made-fits banks (Br cmp) a b c offset constant some h =
    (omega (arith, h.a_fits), omega (arith, h.b_fits), is_offset offset h.offset_fits)
made-fits banks other a b c offset constant some h =
    (omega (arith, h.a_fits), omega (arith, h.b_fits), omega (arith, h.c_fits))

kind_of-made : (kind : Kind) (x : Operands) → kind_of (instruction_of kind x) ≡ kind
kind_of-made Nop x = refl
kind_of-made Halt x = refl
kind_of-made Li x = refl
kind_of-made Ldb x = refl
kind_of-made Stb x = refl
kind_of-made Idb x = refl
kind_of-made Ldw x = refl
kind_of-made Stw x = refl
kind_of-made Jmp x = refl
kind_of-made (Alu op) x = refl
kind_of-made (Br cmp) x = refl

-- the fields of an instruction are in their ranges
record AreFields (banks : ℕ) (kind : Kind) (f : Operands) : Type 0 where
  pub offset_fits : FitsSigned w32 f.offset
  pub constant_fits : FitsSigned w64 f.constant
  pub operands : AreOperands banks kind f.a f.b f.c (cast_unsigned w32 f.offset) (cast_unsigned w64 f.constant)

zero_fits : (w : Width) → FitsSigned w (pos 0)
zero_fits w = record { sfits = pow_pos _ }

offset_below : (z : ℤ) → FitsSigned w32 z → cast_unsigned w32 z ≤ 2 ^ 32 - 1
offset_below z h = omega (arith, (Fits-of_z {w = w32} {z = z} h).fits)

word_below : (z : ℤ) → FitsSigned w64 z → cast_unsigned w64 z ≤ 2 ^ 64 - 1
word_below z h = omega (arith, (Fits-of_z {w = w64} {z = z} h).fits)

-- the operands of an instruction without an offset and a constant
numbers_fit : (banks : ℕ) (kind : Kind) (a b c : ℕ) → a ≤ (limits_of banks kind).a → b ≤ (limits_of banks kind).b
    → c ≤ (limits_of banks kind).c → AreFields banks kind (operand_numbers a b c)
numbers_fit banks kind a b c low_a low_b low_c = record {
  offset_fits = zero_fits w32;
  constant_fits = zero_fits w64;
  operands = record {
    a_fits = low_a;
    b_fits = low_b;
    c_fits = low_c;
    offset_fits = omega arith;
    constant_fits = omega arith;
  };
}

fields_fit : (banks : ℕ) (i : Instr) → InstrFits banks i → AreFields banks (kind_of i) (operands_of i)
fields_fit banks instr.Nop h = numbers_fit banks Nop 0 0 0 (omega arith) (omega arith) (omega arith)
fields_fit banks instr.Halt h = numbers_fit banks Halt 0 0 0 (omega arith) (omega arith) (omega arith)
fields_fit banks (instr.Li rd value) h = record {
  offset_fits = zero_fits w32;
  constant_fits = h.1;
  operands = record {
    a_fits = omega (arith, h.0);
    b_fits = omega arith;
    c_fits = omega arith;
    offset_fits = omega arith;
    constant_fits = word_below value h.1;
  };
}
fields_fit banks (instr.Alu op rd ra rb) h =
    numbers_fit banks (Alu op) rd ra rb (omega (arith, h.0)) (omega (arith, h.1)) (omega (arith, h.2))
fields_fit banks (instr.Ldb k b r) h =
    numbers_fit banks Ldb k b r (omega (arith, h.0)) (omega (arith, h.1)) (omega (arith, h.2))
fields_fit banks (instr.Stb k) h = numbers_fit banks Stb k 0 0 (omega (arith, h)) (omega arith) (omega arith)
fields_fit banks (instr.Idb rd k) h =
    numbers_fit banks Idb rd k 0 (omega (arith, h.0)) (omega (arith, h.1)) (omega arith)
fields_fit banks (instr.Ldw rd k ro) h =
    numbers_fit banks Ldw rd k ro (omega (arith, h.0)) (omega (arith, h.1)) (omega (arith, h.2))
fields_fit banks (instr.Stw rs k ro) h =
    numbers_fit banks Stw rs k ro (omega (arith, h.0)) (omega (arith, h.1)) (omega (arith, h.2))
fields_fit banks (instr.Jmp offset) h = record {
  offset_fits = h;
  constant_fits = zero_fits w64;
  operands = record {
    a_fits = omega arith;
    b_fits = omega arith;
    c_fits = omega arith;
    offset_fits = offset_below offset h;
    constant_fits = omega arith;
  };
}
fields_fit banks (instr.Br cmp ra rb offset) h = record {
  offset_fits = h.2;
  constant_fits = zero_fits w64;
  operands = record {
    a_fits = omega (arith, h.0);
    b_fits = omega (arith, h.1);
    c_fits = omega arith;
    offset_fits = offset_below offset h.2;
    constant_fits = omega arith;
  };
}

-- reading

record AreSmall (most : Limits) : Type 0 where
  pub a_below : most.a < 256 ^ 1
  pub b_below : most.b < 256 ^ 1
  pub c_below : most.c < 256 ^ 1
  pub offset_below : most.offset < 256 ^ 4
  pub constant_below : most.constant < 256 ^ 8

operand_small : (banks : ℕ) (operand : Operand) → banks ≤ 10 → most_operand banks operand < 256 ^ 1
operand_small banks Bank few = omega (arith, few)
operand_small banks other few = omega arith

offset_small : (used : Bool) → most_bits 32 used < 256 ^ 4
offset_small true = omega arith
offset_small false = omega arith

constant_small : (used : Bool) → most_bits 64 used < 256 ^ 8
constant_small true = omega arith
constant_small false = omega arith

limits_small : (banks : ℕ) (kind : Kind) → banks ≤ 10 → AreSmall (limits_of banks kind)
limits_small banks kind few = record {
  a_below = operand_small banks (format_of kind).a few;
  b_below = operand_small banks (format_of kind).b few;
  c_below = operand_small banks (format_of kind).c few;
  offset_below = offset_small (format_of kind).offset;
  constant_below = constant_small (format_of kind).constant;
}

module _ (banks all : ℕ) (some : 2 ≤ banks) (few : banks ≤ 10) where
  of_a : (kind : Kind)
      → IsReader (field_at 1 all (is_within 0 (limits_of banks kind).a)) (number 1) (Within 0 (limits_of banks kind).a)
  of_a kind = range 1 all 0 (limits_of banks kind).a (limits_small banks kind few).a_below

  of_b : (kind : Kind)
      → IsReader (field_at 1 all (is_within 0 (limits_of banks kind).b)) (number 1) (Within 0 (limits_of banks kind).b)
  of_b kind = range 1 all 0 (limits_of banks kind).b (limits_small banks kind few).b_below

  of_c : (kind : Kind)
      → IsReader (field_at 1 all (is_within 0 (limits_of banks kind).c)) (number 1) (Within 0 (limits_of banks kind).c)
  of_c kind = range 1 all 0 (limits_of banks kind).c (limits_small banks kind few).c_below

  of_offset : (kind : Kind) → IsReader (field_at 4 all (is_within 0 (limits_of banks kind).offset)) (number 4)
      (Within 0 (limits_of banks kind).offset)
  of_offset kind = range 4 all 0 (limits_of banks kind).offset (limits_small banks kind few).offset_below

  of_constant : (kind : Kind) → IsReader (field_at 8 all (is_within 0 (limits_of banks kind).constant)) (number 8)
      (Within 0 (limits_of banks kind).constant)
  of_constant kind = range 8 all 0 (limits_of banks kind).constant (limits_small banks kind few).constant_below

  instruction_reads : (bytes : List ℕ) → IsBytes bytes
      → IfRead (instruction_at banks all bytes) (Found instruction (InstrFits banks) bytes)
  unfolding instruction_at instruction
  instruction_reads bytes fits =
      read_then _ _ _ _ (kind_read all bytes fits) (λ kind t.
      read_then _ _ _ _ ((of_a kind.0).reads kind.1 t.rest_fits) (λ a ta.
      read_then _ _ _ _ ((of_b kind.0).reads a.1 ta.0.rest_fits) (λ b tb.
      read_then _ _ _ _ ((of_c kind.0).reads b.1 tb.0.rest_fits) (λ c tc.
      read_then _ _ _ _ ((of_offset kind.0).reads c.1 tc.0.rest_fits) (λ offset td.
      read_then _ _ _ _ ((of_constant kind.0).reads offset.1 td.0.rest_fits) (λ constant te.
      let small = limits_small banks kind.0 few in
      let operands : AreOperands banks kind.0 a.0 b.0 c.0 offset.0 constant.0 =
      record { a_fits = ta.1.1; b_fits = tb.1.1; c_fits = tc.1.1; offset_fits = td.1.1; constant_fits = te.1.1 } in
      let takes = Takes-then (Takes-then (Takes-then (Takes-then (Takes-then t ta.0) tb.0) tc.0) td.0) te.0 in
      let raw_offset = of_z-to_z w32 offset.0 (omega (arith, td.1.1, small.offset_below)) in
      let raw_constant = of_z-to_z w64 constant.0 (omega (arith, te.1.1, small.constant_below)) in
      read_ok _ _ (
        rw (
          kind_of-made kind.0,
          operands_of-made banks kind.0 a.0 b.0 c.0 offset.0 constant.0 operands,
          raw_offset,
          raw_constant,
        ) takes,
        made-fits banks kind.0 a.0 b.0 c.0 offset.0 constant.0 some operands,
      )))))))

  instruction_again : (i : Instr) (rest : List ℕ) → InstrFits banks i
      → instruction_at banks all (instruction i ++ rest) ≡ Ok (i, rest)
  unfolding instruction_at instruction
  instruction_again i rest h =
      let f : Operands = operands_of i in
      let kind : Kind = kind_of i in
      let fit = fields_fit banks i h in
      simp append_assoc (rw (
        kind_again all kind,
        (of_a kind).again f.a _ (omega arith, fit.operands.a_fits),
        (of_b kind).again f.b _ (omega arith, fit.operands.b_fits),
        (of_c kind).again f.c _ (omega arith, fit.operands.c_fits),
        (of_offset kind).again (cast_unsigned w32 f.offset) _ (omega arith, fit.operands.offset_fits),
        (of_constant kind).again (cast_unsigned w64 f.constant) _ (omega arith, fit.operands.constant_fits),
        to_z-of_z w32 f.offset fit.offset_fits,
        to_z-of_z w64 f.constant fit.constant_fits,
        instruction_again_of i,
      ) refl)

  pub instructions : IsReader (instruction_at banks all) instruction (InstrFits banks)
  instructions = record { reads = instruction_reads; again = instruction_again }

  -- code is read from its encoding, and from nothing else
  pub codes : (low : ℕ) → IsReader (code_at banks low all) (listed 4 instruction)
      (λ code. Within low 1048576 (length code) × All (InstrFits banks) code)
  unfolding code_at
  codes low =
      let whole =
      list (λ before. instruction_at banks all) instruction (λ before. InstrFits banks)
      (λ before. instructions) 4 all low 1048576 (omega arith) in
      record {
        reads = λ bytes fits. read_weaker _ _ _ (whole.reads bytes fits)
            (λ x found. (found.0, (found.1.0, All-EachAfter (InstrFits banks) [] x.0 found.1.1)));
        again = λ code rest h. whole.again code rest (h.0, EachAfter-All (InstrFits banks) [] code h.1);
      }
