-- What holds of every joined list. (This project's profile.)
use Rattle.std.specs.Prelude.{◌≡◌, ℕ, ℤ, List, [], ◌∷◌, map, Contains, slice_get, Some}
use Rattle.lt_isa.specs.Object.{Parts}
use Rattle.lt_isa.specs.Machine.{State}
use Rattle.lt_isa.specs.Ranges.{IsInRange}
use Rattle.lt_isa.specs.Shape.{IsShaped}
use Rattle.lt_isa.specs.Start.{Agree, FitsObject, start_state, trace}
use Rattle.lt_isa.specs.Oblivious.{IsOblivious}
use Rattle.lt_isa.specs.Trace.{Stamped, trace_from}
use Rattle.bus_arbiter.specs.Shares.{IsPlan, share_of}
use Rattle.bus_arbiter.specs.Transfers.{IsDuring, Transfer}

-- an object and a state that it is run from
pub record Run : Type 0 where
  pub object : Parts
  pub state : State

abbrev pub shown_to : ℕ → Run → List Stamped
shown_to n r = trace_from r.object r.state n

-- runs that a plan has taken, in its order
pub record AreOnBus (runs : List Run) : Type 0 where
  pub plan : IsPlan (map (λ r. share_of r.object) runs)
  pub in_range : (k : ℕ) (r : Run) → slice_get runs k ≡ Some r → IsInRange r.object
  pub shaped : (k : ℕ) (r : Run) → slice_get runs k ≡ Some r → IsShaped r.object r.state

-- in no cycle are two transfers on the bus
abbrev pub NoneOverlap : List Run → List Transfer → Type 0
NoneOverlap runs joined = (t u : Transfer) → Contains joined t → Contains joined u → (r s : Run)
    → slice_get runs t.core ≡ Some r → slice_get runs u.core ≡ Some s → (cycle : ℕ)
    → IsDuring r.object t cycle → IsDuring s.object u cycle → t ≡ u

-- the traces of some objects on their inputs
abbrev pub traces_on : List Parts → List (List (List ℤ)) → ℕ → List (List Stamped)
traces_on [] ds n = []
traces_on (o ∷ os) [] n = []
traces_on (o ∷ os) (d ∷ ds) n = trace o d n ∷ traces_on os ds n

-- the inputs of each object agree
abbrev pub AllAgree : List Parts → List (List (List ℤ)) → List (List (List ℤ)) → Type 0
AllAgree [] ds es = Unit {0}
AllAgree (o ∷ os) [] [] = Unit {0}
AllAgree (o ∷ os) [] (e ∷ es) = ⊥
AllAgree (o ∷ os) (d ∷ ds) [] = ⊥
AllAgree (o ∷ os) (d ∷ ds) (e ∷ es) = Agree o d e × AllAgree os ds es

abbrev pub AllOblivious : List Parts → Type 0
AllOblivious [] = Unit {0}
AllOblivious (o ∷ os) = IsOblivious o × AllOblivious os

-- objects in range, each with inputs that fit it
abbrev pub AllFit : List Parts → List (List (List ℤ)) → Type 0
AllFit [] [] = Unit {0}
AllFit [] (d ∷ ds) = ⊥
AllFit (o ∷ os) [] = ⊥
AllFit (o ∷ os) (d ∷ ds) = IsInRange o × FitsObject o d × AllFit os ds

-- the runs of objects on their inputs, from the start
abbrev pub runs_of : List Parts → List (List (List ℤ)) → List Run
runs_of [] ds = []
runs_of (o ∷ os) [] = []
runs_of (o ∷ os) (d ∷ ds) = record { object = o; state = start_state o d } ∷ runs_of os ds
