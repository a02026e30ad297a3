-- One step of a machine whose place isn't visible. (Only private clauses and proofs say so.)
use Rattle.std.specs.Prelude.{◌≡◌, ◌≤◌, ◌<◌, ◌⊎◌, ℕ, ◌+◌, ◌^◌, nat_lt, if◌then◌else◌, Bool, IsTrue, Option, Some, slice_get}
use Rattle.lt_isa.specs.declared.instructions.Instr.{Instr}
use Rattle.lt_isa.specs.declared.instructions.Instr.TheVariants.{Nop, Halt, Li, Alu, Ldb, Stb, Idb, Ldw, Stw, Jmp, Br}
use Rattle.lt_isa.specs.Machine.{Observed, State}
use Rattle.lt_isa.specs.Object.{Parts}
use Rattle.lt_isa.specs.Ranges.{IsInRange}
use Rattle.lt_isa.specs.Shape.{IsShaped}
use Rattle.lt_isa.specs.Step.{Goes, Stops, Faults, step, step_start, target_of}
use Rattle.line_costs.specs.declared.single_steps.Went.{Went}
use Rattle.line_costs.specs.declared.single_steps.Went.TheVariants as went

-- The place after an instruction that takes this many cycles. A branch that takes more than one is taken.
abbrev pub next_of : Parts → ℕ → Instr → ℕ → ℕ
next_of o place (Jmp offset) took = target_of o place offset
next_of o place (Br cmp ra rb offset) took = if nat_lt 1 took then target_of o place offset else place + 1
next_of o place other took = place + 1

-- one step that starts below cycle n, from a state to the next
pub record StepsOnce (o : Parts) (s : State) (n : ℕ) (next : State) (i : Instr) (took : ℕ) : Type 0 where
  pub event : Option Observed
  pub goes : step o s ≡ Goes event next
  pub here : slice_get o.code s.place ≡ Some i
  pub in_time : step_start o s < n
  pub took_is : next.cycle ≡ s.cycle + took
  pub some : 1 ≤ took
  pub fits : next.cycle < 2 ^ 64
  pub in_range : IsInRange o
  pub shaped : IsShaped o s

pub record StopsOnce (o : Parts) (s : State) (n at : ℕ) : Type 0 where
  pub last : State
  pub stops : step o s ≡ Stops last
  pub in_time : step_start o s < n
  pub at_is : s.cycle ≡ at
  pub in_range : IsInRange o
  pub shaped : IsShaped o s

pub record EndsThere (o : Parts) (s : State) (n : ℕ) : Type 0 where
  pub over : (n ≤ step_start o s) ⊎ (step o s ≡ Faults)
  pub in_range : IsInRange o
  pub shaped : IsShaped o s

abbrev pub StepsSo : Parts → State → ℕ → State → Went → Type 0
StepsSo o s n next (went.On i took) = StepsOnce o s n next i took
StepsSo o s n next (went.Halted at) = StopsOnce o s n at
StepsSo o s n next went.Spent = EndsThere o s n

abbrev pub IsLiveIfOn : Went → Bool → Type 0
IsLiveIfOn (went.On i took) live = IsTrue live
IsLiveIfOn (went.Halted at) live = Unit {0}
IsLiveIfOn went.Spent live = Unit {0}
