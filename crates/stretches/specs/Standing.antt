-- Code at a place of an object, and the most that it costs. (This project's profile.)
use Rattle.std.specs.Prelude.{◌≡◌, ℕ, ◌+◌, List, [], ◌∷◌, slice_get, Some}
use Rattle.lt_isa.specs.declared.instructions.Instr.{Instr}
use Rattle.lt_isa.specs.Object.{Parts}
use Rattle.lt_isa.specs.Costs.{greatest_cost}

-- the object's code has these instructions from a place on
pub record StandsAt (o : Parts) (place : ℕ) (code : List Instr) : Type 0 where
  pub each : (k : ℕ) (i : Instr) → slice_get code k ≡ Some i → slice_get o.code (place + k) ≡ Some i

-- the sum of the greatest costs of some instructions
-- why: here, below the crates that generate code, since these costs bound each stretch of code.
abbrev pub greatest_costs : Parts → List Instr → ℕ
greatest_costs o [] = 0
greatest_costs o (i ∷ code) = greatest_cost o i + greatest_costs o code
