-- What runs show and leave, as relations that don't count steps. Each relation has two clauses: one for a cycle that
-- isn't above the start of the next step, and one for a cycle that is. (Traces are those of the GhostRider paper, in
-- this project's profile.)
use Rattle.std.specs.Prelude.{◌≡◌, ℕ, ◌<◌, ◌≤◌, ℤ, List, []}
use Rattle.lt_isa.specs.Object.{Parts}
use Rattle.lt_isa.specs.Machine.{State}
use Rattle.lt_isa.specs.Shape.{IsShaped}
use Rattle.lt_isa.specs.Step.{step, step_start}
use Rattle.lt_isa.specs.Trace.{Stamped, shown_then, left_then, HaltsAt}
use Rattle.lt_isa.specs.Start.{trace}

-- The events below cycle n. There are none if the next step starts at n or later. Otherwise they are what that step
-- shows, followed by the events from the state after it.
pub record AreTraces (o : Parts) (events : State → ℕ → List Stamped) : Type 0 where
  pub past : (s : State) (n : ℕ) → n ≤ step_start o s → events s n ≡ []
  pub more : (s : State) (n : ℕ) → IsShaped o s → step_start o s < n
      → events s n ≡ shown_then (step_start o s) (step o s) (λ t. events t n)

-- The state that is left at cycle n. It is the same state if the next step starts at n or later. Otherwise it is what
-- is left from the state after that step.
pub record AreFinals (o : Parts) (left : State → ℕ → State) : Type 0 where
  pub past : (s : State) (n : ℕ) → n ≤ step_start o s → left s n ≡ s
  pub more : (s : State) (n : ℕ) → IsShaped o s → step_start o s < n
      → left s n ≡ left_then s (step o s) (λ t. left t n)

-- the run on these inputs halts below cycle n
abbrev pub Halts : Parts → List (List ℤ) → ℕ → Type 0
Halts o inputs n = (at : ℕ) × HaltsAt (trace o inputs n) at
