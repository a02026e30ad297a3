-- What a run shows: its events, each stamped with the cycle at which its instruction starts.
-- (Traces are those of the GhostRider paper, in this project's profile.)
use Rattle.std.specs.Prelude.{◌≡◌, ℕ, zero, suc, if◌then◌else◌, nat_lt, List, [], ◌∷◌, ◌++◌, Option, Some, None, Contains}
use Rattle.lt_isa.specs.Object.{Parts}
use Rattle.lt_isa.specs.Machine.{State, Observed, Halted}
use Rattle.lt_isa.specs.Step.{StepResult, Goes, Stops, Faults, step, step_start}

-- an event and its stamp
pub record Stamped : Type 0 where
  pub stamp : ℕ
  pub event : Observed

abbrev pub seen_at : ℕ → Observed → Stamped
seen_at at event = record { stamp = at; event = event }

-- the event of a step, with its stamp, if the step shows one
abbrev pub stamped : ℕ → Option Observed → List Stamped
stamped at None = []
stamped at (Some event) = seen_at at event ∷ []

-- what a step shows, followed by what is shown from the state after it
abbrev pub shown_then : ℕ → StepResult → (State → List Stamped) → List Stamped
shown_then at (Goes event next) rest = stamped at event ++ rest next
shown_then at (Stops last) rest = stamped at (Some Halted)
shown_then at Faults rest = []

-- the state after a step, or what is left from there; a fault changes nothing
abbrev pub left_then : State → StepResult → (State → State) → State
left_then s (Goes event next) rest = rest next
left_then s (Stops last) rest = last
left_then s Faults rest = s

-- the events of the steps from a state that start below cycle n, in at most this many steps, and the state they leave
unfoldable pub trace_within : ℕ → Parts → State → ℕ → List Stamped
trace_within zero o s n = []
trace_within (suc steps) o s n =
    if nat_lt (step_start o s) n then shown_then (step_start o s) (step o s) (λ t. trace_within steps o t n) else []

unfoldable pub final_within : ℕ → Parts → State → ℕ → State
final_within zero o s n = s
final_within (suc steps) o s n =
    if nat_lt (step_start o s) n then left_then s (step o s) (λ t. final_within steps o t n) else s

-- Each step takes at least one cycle, so n steps are enough for all that start below cycle n.
unfoldable pub trace_from : Parts → State → ℕ → List Stamped
trace_from o s n = trace_within n o s n

unfoldable pub final_from : Parts → State → ℕ → State
final_from o s n = final_within n o s n

-- a halt with this stamp is among the events
abbrev pub HaltsAt : List Stamped → ℕ → Type 0
HaltsAt events at = Contains events (seen_at at Halted)

-- some steps lead from one state to another and show these events
pub data Reaches (o : Parts) : State → List Stamped → State → Type 0 where
  Here : (s : State) → Reaches o s [] s
  Then : (s : State) (event : Option Observed) (t : State) (events : List Stamped) (u : State)
      → step o s ≡ Goes event t → Reaches o t events u → Reaches o s (stamped (step_start o s) event ++ events) u

-- no step from the state on is a fault
abbrev pub NeverFaults : Parts → State → Type 0
NeverFaults o s = (events : List Stamped) (t : State) → Reaches o s events t → step o t ≡ Faults → ⊥
