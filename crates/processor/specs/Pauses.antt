-- A run that pauses before its next event. (This project's profile.)
use Rattle.std.specs.Prelude.{◌≡◌, ℕ, ◌<◌, min, [], None}
use Rattle.lt_isa.specs.Object.{Parts}
use Rattle.lt_isa.specs.Machine.{State}
use Rattle.lt_isa.specs.Step.{Goes, step, step_start}
use Rattle.lt_isa.specs.Trace.{final_from, trace_from}

-- the next step shows an event, or is a fault
abbrev pub ShowsNext : Parts → State → Type 0
ShowsNext o s = (next : State) → step o s ≡ Goes None next → ⊥

-- A run up to cycle n, paused before its first event. The next step starts at cycle `start`. The run shows nothing up to
-- there, and it is in the state that it reaches by then. If `start` is below n, the next step shows an event or is a
-- fault.
pub record PausesAt (o : Parts) (before : State) (n start : ℕ) (after : State) : Type 0 where
  pub starts : start ≡ step_start o after
  pub state : after ≡ final_from o before (min start n)
  pub quiet : trace_from o before (min start n) ≡ []
  pub next : start < n → ShowsNext o after
