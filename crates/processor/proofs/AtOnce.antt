-- Where memory is always open, every instruction starts at once.
use Rattle.std.proofs.Common.{◌≡◌, ℕ, refl, sym}
use Rattle.lt_isa.specs.declared.profiles.Profile.{Profile}
use Rattle.lt_isa.specs.declared.instructions.Instr.{Instr}
use Rattle.lt_isa.specs.declared.instructions.Instr.TheVariants.{Nop, Halt, Li, Alu, Ldb, Stb, Idb, Ldw, Stw, Jmp, Br}
use Rattle.lt_isa.specs.Prelude.{start_of, HasUnitPeriod}
use Rattle.lt_isa.proofs.Windows.{access_start-at_once}

-- if memory is always open, a step begins at once
pub start_of-at_once : (p : Profile) → HasUnitPeriod p → (i : Instr) (cycle : ℕ) → cycle ≡ start_of p i cycle
start_of-at_once p whole (Ldb k b r) cycle = sym (access_start-at_once p whole cycle)
start_of-at_once p whole (Stb k) cycle = sym (access_start-at_once p whole cycle)
start_of-at_once p whole other cycle = refl
