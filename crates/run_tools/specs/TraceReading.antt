-- What a reader of a trace has still to read. (Only private clauses and proofs say so.)
use Rattle.std.specs.Prelude.{◌≡◌, ℕ, ◌&&◌, ◌==◌, nat_lt, if◌then◌else◌, Bool, List, [], ◌∷◌, ◌++◌, length, map, Option, Some, None}
use Rattle.lt_isa.specs.Object.{Parts}
use Rattle.lt_isa.specs.Machine.{State}
use Rattle.lt_isa.specs.Ranges.{IsInRange}
use Rattle.lt_isa.specs.Shape.{IsShaped}
use Rattle.lt_isa.specs.Trace.{Stamped, trace_from}
use Rattle.run_tools.specs.Recorded.{stamped_of}
use Rattle.run_tools.specs.declared.recorder.Recorded.{Recorded}
use Rattle.run_tools.specs.declared.trace_reader.TraceReader.{TraceReader}

-- the events that start below a cycle from here on, if a machine is still run
abbrev pub ahead : Bool → Parts → State → ℕ → List Stamped
ahead runs o s cycles = if runs then trace_from o s cycles else []

-- the events that wait, and those that the machine will show
abbrev pub left_to_read : TraceReader → Parts → State → Bool → List Stamped
left_to_read r o s live = map stamped_of r.waiting.items ++ ahead (live && nat_lt r.reached r.cycles) o s r.cycles

abbrev pub wants_more : TraceReader → Bool → Bool
wants_more r live = live && (nat_lt r.reached r.cycles && (length r.waiting.items == 0))

-- the machine has the shape of its object
pub record MayRead (r : TraceReader) (o : Parts) (s : State) : Type 0 where
  pub in_range : IsInRange o
  pub shaped : IsShaped o s

-- an event is the first of those before, and these are left; or none was left
abbrev pub TakesNext : List Stamped → Option Recorded → List Stamped → Type 0
TakesNext before None after = (before ≡ []) × (after ≡ [])
TakesNext before (Some event) after = before ≡ stamped_of event ∷ after
