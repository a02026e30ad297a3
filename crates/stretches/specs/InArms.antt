-- Code in an arm of a branch on a secret. (This project's profile of objects.)
use Rattle.std.specs.Prelude.{◌≡◌, ℕ, ◌+◌, ◌<◌, false, List, length}
use Rattle.lt_isa.specs.declared.instructions.Instr.{Instr}
use Rattle.lt_isa.specs.Object.{Parts}
use Rattle.stretches.specs.Standing.{StandsAt}
use Rattle.trace_patterns.specs.Shape.{has_note_between}

-- some code is at a place, an instruction follows it, and no place of it after the first has a note
pub record StandsInArm (o : Parts) (p : ℕ) (code : List Instr) : Type 0 where
  pub at : StandsAt o p code
  pub behind : p + length code < length o.code
  pub quiet : has_note_between o p (p + length code) ≡ false
