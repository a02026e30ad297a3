-- Instructions in their flat form, and the code that they represent. Only for proofs and for the contracts of private
-- functions.
use Rattle.std.specs.Prelude.{◌≡◌, ℕ, ◌<◌, ◌⊎◌, List, length, slice_index_or}
use Rattle.lt_isa.specs.declared.instructions.Instr.{Instr}
use Rattle.lt_isa.specs.declared.instructions.Instr.TheVariants.{Nop, Halt, Li, Alu, Ldb, Stb, Idb, Ldw, Stw, Jmp, Br}
use Rattle.processor.specs.declared.flat.Flat.{Flat}
use Rattle.gr_word.specs.declared.operations.Op.TheVariants as op
use Rattle.gr_word.specs.declared.operations.Cmp.TheVariants as cmp
use Rattle.processor.specs.declared.flat.Flat.TheVariants as flat

-- the instruction that a flat form is made of; that of a halt, a load or a store of a block is read as a halt
abbrev pub instr_of : Flat → Instr
instr_of flat.Access = Halt
instr_of flat.Nop = Nop
instr_of (flat.Li rd value) = Li rd value
instr_of (flat.Add rd ra rb) = Alu op.Add rd ra rb
instr_of (flat.Sub rd ra rb) = Alu op.Sub rd ra rb
instr_of (flat.Mul rd ra rb) = Alu op.Mul rd ra rb
instr_of (flat.Div rd ra rb) = Alu op.Div rd ra rb
instr_of (flat.Rem rd ra rb) = Alu op.Rem rd ra rb
instr_of (flat.Remu rd ra rb) = Alu op.Remu rd ra rb
instr_of (flat.And rd ra rb) = Alu op.And rd ra rb
instr_of (flat.Or rd ra rb) = Alu op.Or rd ra rb
instr_of (flat.Xor rd ra rb) = Alu op.Xor rd ra rb
instr_of (flat.Shl rd ra rb) = Alu op.Shl rd ra rb
instr_of (flat.Shr rd ra rb) = Alu op.Shr rd ra rb
instr_of (flat.Idb rd k) = Idb rd k
instr_of (flat.Ldw rd k ro) = Ldw rd k ro
instr_of (flat.Stw rs k ro) = Stw rs k ro
instr_of (flat.Jmp offset) = Jmp offset
instr_of (flat.Eq ra rb offset) = Br cmp.Eq ra rb offset
instr_of (flat.Ne ra rb offset) = Br cmp.Ne ra rb offset
instr_of (flat.Lt ra rb offset) = Br cmp.Lt ra rb offset
instr_of (flat.Le ra rb offset) = Br cmp.Le ra rb offset
instr_of (flat.Gt ra rb offset) = Br cmp.Gt ra rb offset
instr_of (flat.Ge ra rb offset) = Br cmp.Ge ra rb offset

-- a halt, or a load or a store of a block
abbrev pub IsForStep : Instr → Type 0
IsForStep Halt = Unit {0}
IsForStep (Ldb k b r) = Unit {0}
IsForStep (Stb k) = Unit {0}
IsForStep other = ⊥

-- a flat form is made of an instruction; one of them is that of every halt, load and store of a block
abbrev pub IsFlatForm : Flat → Instr → Type 0
IsFlatForm f i = ((f ≡ flat.Access) × IsForStep i) ⊎ (instr_of f ≡ i)

-- each of some flat forms is made of the instruction at its place
abbrev pub AreFlatForms : List Flat → List Instr → Type 0
AreFlatForms flats code =
    (p : ℕ) → p < length flats → IsFlatForm (slice_index_or flats p flat.Access) (slice_index_or code p Nop)

-- some flat forms represent some code
pub record IsFlatOf (flats : List Flat) (code : List Instr) : Type 0 where
  pub count : length flats ≡ length code
  pub each : AreFlatForms flats code
