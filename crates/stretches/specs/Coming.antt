-- Runs of a stretch of code: the place that a run reaches, what it shows on the way, and by which cycle. (This
-- project's profile.)
use Rattle.std.specs.Prelude.{◌≡◌, ◌≢◌, ℕ, ◌+◌, ◌<◌, ◌≤◌, ℤ, List, [], ◌∷◌, length, map, Option, Some, None}
use Rattle.lt_isa.specs.declared.instructions.Instr.{Instr}
use Rattle.lt_isa.specs.Object.{Parts}
use Rattle.lt_isa.specs.Machine.{State, Observed, register}
use Rattle.lt_isa.specs.Shape.{IsShaped}
use Rattle.stretches.specs.Standing.{greatest_costs}
use Rattle.lt_isa.specs.Trace.{Stamped, Reaches}

-- what events show, without their stamps
abbrev pub seen : List Stamped → List Observed
seen events = map (λ e. e.event) events

-- From state s the run reaches a place, in a state with property P. On the way it shows these events in this order, and
-- it takes at most `most` cycles.
pub record Comes (o : Parts) (s : State) (shown : List Observed) (place most : ℕ) (P : State → Type 0) : Type 0 where
  pub end : State
  pub events : List Stamped
  pub reaches : Reaches o s events end
  pub shows : seen events ≡ shown
  pub comes : end.place ≡ place
  pub by : end.cycle ≤ s.cycle + most
  pub shaped : IsShaped o end
  pub holds : P end

-- what one step shows
abbrev pub shown_by : Option Observed → List Observed
shown_by None = []
shown_by (Some event) = event ∷ []

-- the run of some code from its first instruction reaches the place after its last one, within the greatest costs
abbrev pub RunsThrough : Parts → State → List Instr → List Observed → (State → Type 0) → Type 0
RunsThrough o s code shown P = Comes o s shown (s.place + length code) (greatest_costs o code) P

-- one register was set; all else is as before, except the place and the cycle
pub record Sets (s : State) (r : ℕ) (word : ℤ) (t : State) : Type 0 where
  pub value : register t r ≡ word
  pub others : (q : ℕ) → q ≢ r → register t q ≡ register s q
  pub slots : t.slots ≡ s.slots
  pub banks : t.banks ≡ s.banks

-- the registers below n, the slots and the banks are as before
pub record Keeps (n : ℕ) (s t : State) : Type 0 where
  pub below : (r : ℕ) → r < n → register t r ≡ register s r
  pub slots : t.slots ≡ s.slots
  pub banks : t.banks ≡ s.banks
