-- Instructions that are written are read as the same.
use Rattle.std.proofs.Common.{◌≡◌, ℕ, ◌^◌, ◌<◌, ◌≤◌, Bool, true, false, ltb, List, Some, None, Ok, refl, arith}
use Rattle.std.specs.Prelude.{ℤ, pos, negsuc}
use Rattle.std.proofs.lemmas.Bool.{lt-ltb}
use Rattle.std.proofs.lemmas.Int.{ints}
use Rattle.gr_word.specs.declared.operations.Op.{Op}
use Rattle.gr_word.specs.declared.operations.Op.TheVariants.{Add}
use Rattle.gr_word.specs.declared.operations.Cmp.{Cmp}
use Rattle.gr_word.specs.declared.operations.Cmp.TheVariants.{Eq}
use Rattle.lt_isa.specs.declared.instructions.Instr.{Instr}
use Rattle.lt_isa.specs.declared.instructions.Instr.TheVariants.{Nop, Halt, Li, Alu, Ldb, Stb, Idb, Ldw, Stw, Jmp, Br}
use Rattle.lt_isa.specs.Prelude.{InstrFits, IsOffset, op_word, cmp_word}
use Rattle.lt_assembler.specs.declared.faults.Fault.TheVariants.{Number}
use Rattle.lt_assembler.specs.Prelude.{Word, offset_word, op_named, cmp_named, mnemonic_named, unless_not, instruction_words, offset_aim, aim_read, Coded, li_read, alu_read, ldb_read, stb_read, idb_read, access_read, jmp_read, br_read, instruction_read, is_of_form, is_instruction}
use Rattle.gr_base.specs.Prelude.{◌>>=◌}
use Rattle.lt_assembler.proofs.NumberWords.{constant_again, forward_again, backward_again, register_again, slot_again, bank_again}
use Rattle.lt_assembler.specs.declared.mnemonics.Mnemonic.TheVariants as mnemonic

pub op_again : (op : Op) → mnemonic_named (op_word op) ≡ Some (mnemonic.Alu op)
unfolding mnemonic_named op_named
op_again Add = refl
op_again _ = refl

-- the word of a comparison is read as the comparison
pub cmp_again : (cmp : Cmp) → cmp_named (cmp_word cmp) ≡ Some cmp
unfolding cmp_named
cmp_again Eq = refl
cmp_again _ = refl

aim_again : (place : ℕ) (z : ℤ) → IsOffset z → aim_read place (offset_word z) ≡ Ok (offset_aim z)
unfolding aim_read
aim_again place (pos n) fits = let small : n < 2 ^ 31 = omega (arith, ints) in rw (forward_again n small) refl
aim_again place (negsuc n) fits = let small : n < 2 ^ 31 = omega (arith, ints) in rw (backward_again n small) refl

abbrev pub alone : Instr → Coded
alone i = record { instr = i; label = None }

-- the words of an instruction are read as the instruction
pub instruction_again : (banks place : ℕ) (i : Instr)
    → banks ≤ 10 → InstrFits banks i → instruction_read banks place (instruction_words i) ≡ Ok (alone i)
unfolding instruction_read mnemonic_named op_named li_read alu_read ldb_read stb_read idb_read
    access_read jmp_read br_read
instruction_again banks place Nop few h = refl
instruction_again banks place Halt few h = refl
instruction_again banks place (Li rd value) few h = rw (register_again rd h.0, constant_again value h.1) refl
instruction_again banks place (Alu op rd ra rb) few h =
    rw (op_again op, register_again rd h.0, register_again ra h.1, register_again rb h.2) refl
instruction_again banks place (Ldb k b r) few h =
    rw (bank_again b (omega (arith, h.1)), register_again r h.2, slot_again k h.0, lt-ltb b banks h.1) refl
instruction_again banks place (Stb k) few h = rw (slot_again k h) refl
instruction_again banks place (Idb rd k) few h = rw (register_again rd h.0, slot_again k h.1) refl
instruction_again banks place (Ldw rd k ro) few h =
    rw (register_again rd h.0, register_again ro h.2, slot_again k h.1) refl
instruction_again banks place (Stw rs k ro) few h =
    rw (register_again rs h.0, register_again ro h.2, slot_again k h.1) refl
instruction_again banks place (Jmp offset) few h = rw (aim_again place offset h) refl
instruction_again banks place (Br cmp ra rb offset) few h =
    rw (cmp_again cmp, register_again ra h.0, register_again rb h.1, aim_again place offset h.2) refl

-- a line that is read as an instruction has the form of one
pub formed : (words : List Word) (coded : Coded) → instruction_read 2 0 words ≡ Ok coded → is_instruction words ≡ true
unfolding is_instruction
formed words coded h = rw h refl

load_formed : (k b r banks : ℕ)
    → banks ≤ 10 → InstrFits banks (Ldb k b r) → is_instruction (instruction_words (Ldb k b r)) ≡ true
unfolding is_instruction instruction_read mnemonic_named op_named ldb_read
load_formed k b r banks few h =
    rw (bank_again b (omega (arith, h.1)), register_again r h.2, slot_again k h.0) (either (ltb b 2)) where
      either : (t : Bool) → is_of_form ((unless_not Number t >>= (λ _. Ok (Ldb k b r))) >>= (λ i. Ok (alone i))) ≡ true
      either true = refl
      either false = refl

-- the words of an instruction have the form of one
pub instruction_formed : (banks : ℕ) (i : Instr)
    → banks ≤ 10 → InstrFits banks i → is_instruction (instruction_words i) ≡ true
instruction_formed banks Nop few h = formed _ _ (instruction_again 2 0 Nop (omega arith) tt)
instruction_formed banks Halt few h = formed _ _ (instruction_again 2 0 Halt (omega arith) tt)
instruction_formed banks (Li rd value) few h = formed _ _ (instruction_again 2 0 (Li rd value) (omega arith) h)
instruction_formed banks (Alu op rd ra rb) few h = formed _ _ (instruction_again 2 0 (Alu op rd ra rb) (omega arith) h)
instruction_formed banks (Ldb k b r) few h = load_formed k b r banks few h
instruction_formed banks (Stb k) few h = formed _ _ (instruction_again 2 0 (Stb k) (omega arith) h)
instruction_formed banks (Idb rd k) few h = formed _ _ (instruction_again 2 0 (Idb rd k) (omega arith) h)
instruction_formed banks (Ldw rd k ro) few h = formed _ _ (instruction_again 2 0 (Ldw rd k ro) (omega arith) h)
instruction_formed banks (Stw rs k ro) few h = formed _ _ (instruction_again 2 0 (Stw rs k ro) (omega arith) h)
instruction_formed banks (Jmp offset) few h = formed _ _ (instruction_again 2 0 (Jmp offset) (omega arith) h)
instruction_formed banks (Br cmp ra rb offset) few h =
    formed _ _ (instruction_again 2 0 (Br cmp ra rb offset) (omega arith) h)
