-- Where an instruction leads, and nothing else about it. (This project's profile.)
use Rattle.std.specs.Prelude.{◌≡◌, ℕ, ℤ, true, slice_get, Some}
use Rattle.gr_word.specs.declared.operations.Cmp.{Cmp}
use Rattle.lt_isa.specs.Object.{Parts}
use Rattle.lt_isa.specs.declared.instructions.Instr.{Instr}
use Rattle.lt_isa.specs.declared.instructions.Instr.TheVariants.{Halt, Jmp, Br}
use Rattle.trace_patterns.specs.Carried.{only_goes_on}
use Rattle.region_walk.specs.declared.next_steps.NextStep.{NextStep}
use Rattle.region_walk.specs.declared.next_steps.NextStep.TheVariants.{Goes, Halts, Jumps, Branches}

abbrev pub IsNextStep : Instr → NextStep → Type 0
IsNextStep i Goes = only_goes_on i ≡ true
IsNextStep i Halts = i ≡ Halt
IsNextStep i (Jumps offset) = i ≡ Jmp offset
IsNextStep i (Branches offset) = (cmp : Cmp) × (ra : ℕ) × (rb : ℕ) × (i ≡ Br cmp ra rb offset)

-- a branch is at a place, with any comparison
pub record BranchStands (o : Parts) (place : ℕ) (offset : ℤ) : Type 0 where
  pub cmp : Cmp
  pub ra : ℕ
  pub rb : ℕ
  pub at : slice_get o.code place ≡ Some (Br cmp ra rb offset)
