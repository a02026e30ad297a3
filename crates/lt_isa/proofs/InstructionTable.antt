-- An instruction is its kind and its operands, and an opcode names one kind.
use Rattle.std.proofs.Common.{◌≡◌, ℕ, ◌<◌, Bool, true, eqb, List, [], ◌∷◌, Some, refl, sym, ap, ◌∙◌, arith, inl, inr}
use Rattle.std.specs.Prelude.{find}
use Rattle.std.proofs.lemmas.Bool.{eqb-true, cases_Bool, cond-true, cond-false}
use Rattle.gr_word.specs.declared.operations.Op.{Op}
use Rattle.gr_word.specs.declared.operations.Op.TheVariants.{Add, Sub, Mul, Div, Rem, Remu, And, Or, Xor, Shl, Shr}
use Rattle.gr_word.specs.declared.operations.Cmp.{Cmp}
use Rattle.gr_word.specs.declared.operations.Cmp.TheVariants.{Eq, Ne, Lt, Le, Gt, Ge}
use Rattle.lt_isa.specs.declared.instructions.Instr.{Instr}
use Rattle.lt_isa.specs.declared.instruction_table.Kind.{Kind}
use Rattle.lt_isa.specs.declared.instruction_table.Kind.TheVariants.{Nop, Halt, Li, Ldb, Stb, Idb, Ldw, Stw, Jmp, Alu, Br}
use Rattle.lt_isa.specs.Prelude.{operation_code, comparison_code, opcode_of, kinds, kind_named, kind_of, operands_of, instruction_of}
use Rattle.lt_isa.specs.declared.instructions.Instr.TheVariants as instr

find-passes : {X : Type 0} (p : X → Bool) (xs : List X) (x : X) → find p xs ≡ Some x → p x ≡ true
find-passes p [] x e = absurd cc
find-passes p (y ∷ ys) x e =
    elim (cases_Bool (p y)) [
      | inl passes ↦
          let here : find p (y ∷ ys) ≡ Some y = cond-true (p y) (Some y) (find p ys) passes in
          let same : y ≡ x = cc in
          ap p (sym same) ∙ passes
      | inr fails ↦ find-passes p ys x (sym (cond-false (p y) (Some y) (find p ys) fails) ∙ e)
    ]

-- an opcode that names a kind is that kind's opcode
pub opcode_of_named : (n : ℕ) (kind : Kind) → kind_named n ≡ Some kind → n ≡ opcode_of kind
unfolding kind_named
opcode_of_named n kind e = eqb-true _ _ (find-passes (λ k. eqb n (opcode_of k)) kinds kind e)

-- the opcode of a kind names it
pub kind_of_opcode : (kind : Kind) → kind_named (opcode_of kind) ≡ Some kind
unfolding kind_named
kind_of_opcode Nop = refl
kind_of_opcode Halt = refl
kind_of_opcode Li = refl
kind_of_opcode Ldb = refl
kind_of_opcode Stb = refl
kind_of_opcode Idb = refl
kind_of_opcode Ldw = refl
kind_of_opcode Stw = refl
kind_of_opcode Jmp = refl
kind_of_opcode (Alu Add) = refl
kind_of_opcode (Alu Sub) = refl
kind_of_opcode (Alu Mul) = refl
kind_of_opcode (Alu Div) = refl
kind_of_opcode (Alu Rem) = refl
kind_of_opcode (Alu Remu) = refl
kind_of_opcode (Alu And) = refl
kind_of_opcode (Alu Or) = refl
kind_of_opcode (Alu Xor) = refl
kind_of_opcode (Alu Shl) = refl
kind_of_opcode (Alu Shr) = refl
kind_of_opcode (Br Eq) = refl
kind_of_opcode (Br Ne) = refl
kind_of_opcode (Br Lt) = refl
kind_of_opcode (Br Le) = refl
kind_of_opcode (Br Gt) = refl
kind_of_opcode (Br Ge) = refl

operation_code-lt : (op : Op) → operation_code op < 256
operation_code-lt Add = omega arith
operation_code-lt _ = omega arith

comparison_code-lt : (cmp : Cmp) → comparison_code cmp < 256
comparison_code-lt Eq = omega arith
comparison_code-lt _ = omega arith

-- an opcode is a byte
pub opcode_of-lt : (kind : Kind) → opcode_of kind < 256
opcode_of-lt (Alu op) = operation_code-lt op
opcode_of-lt (Br cmp) = comparison_code-lt cmp
opcode_of-lt other = omega arith

-- an instruction is determined by its kind and its operands
pub instruction_again : (i : Instr) → instruction_of (kind_of i) (operands_of i) ≡ i
instruction_again instr.Nop = refl
instruction_again instr.Halt = refl
instruction_again (instr.Li rd value) = refl
instruction_again (instr.Alu op rd ra rb) = refl
instruction_again (instr.Ldb k b r) = refl
instruction_again (instr.Stb k) = refl
instruction_again (instr.Idb rd k) = refl
instruction_again (instr.Ldw rd k ro) = refl
instruction_again (instr.Stw rs k ro) = refl
instruction_again (instr.Jmp offset) = refl
instruction_again (instr.Br cmp ra rb offset) = refl
