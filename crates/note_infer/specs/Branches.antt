-- The branch that an instruction is. (Only clauses of the search cite this.)
use Rattle.std.specs.Prelude.{◌≡◌, ℕ, ℤ, slice_get, Option, Some, None}
use Rattle.gr_word.specs.declared.operations.Cmp.{Cmp}
use Rattle.lt_isa.specs.Object.{Parts}
use Rattle.lt_isa.specs.declared.instructions.Instr.{Instr}
use Rattle.lt_isa.specs.declared.instructions.Instr.TheVariants.{Br}
use Rattle.note_infer.specs.declared.joining.Branch.{Branch}

abbrev pub IsBranchOf : Instr → Option Branch → Type 0
IsBranchOf i None = (cmp : Cmp) (ra rb : ℕ) (offset : ℤ) → i ≡ Br cmp ra rb offset → ⊥
IsBranchOf i (Some b) = (cmp : Cmp) × (i ≡ Br cmp b.ra b.rb b.offset)

-- it is at a place
pub record BranchIsAt (o : Parts) (place : ℕ) (b : Branch) : Type 0 where
  pub cmp : Cmp
  pub at : slice_get o.code place ≡ Some (Br cmp b.ra b.rb b.offset)
