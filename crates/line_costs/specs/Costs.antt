-- What the steps of a run take, and in which row each is counted. (This project's profile.)
use Rattle.std.specs.Prelude.{◌≡◌, ◌≤◌, ◌<◌, ◌⊎◌, ℕ, ◌-◌, ◌==◌, nat_lt, if◌then◌else◌, Bool, true, false, List, [], ◌∷◌, Option, Some, None, length, count_by, sum_by, slice_index, slice_index_or}
use Rattle.lt_isa.specs.declared.instructions.Instr.{Instr}
use Rattle.lt_isa.specs.declared.instructions.Instr.TheVariants.{Nop, Halt, Li, Alu, Ldb, Stb, Idb, Ldw, Stw, Jmp, Br}
use Rattle.lt_isa.specs.Machine.{Observed, RamRead, RamWrite, EncRead, EncWrite, Oram, Halted, State}
use Rattle.lt_isa.specs.Object.{Parts}
use Rattle.lt_isa.specs.Step.{Goes, Stops, Faults, step, step_start}
use Rattle.lt_isa.specs.Trace.{Stamped}
use Rattle.processor.specs.declared.ends.End.{End}
use Rattle.line_costs.specs.declared.costs.Costs.{Costs}
use Rattle.line_costs.specs.declared.costs.Part.{Part}
use Rattle.processor.specs.declared.ends.End.TheVariants as end

-- how many of some events are accesses to memory
abbrev pub is_access : Observed → Bool
is_access Halted = false
is_access other = true

abbrev pub accesses_of : List Stamped → ℕ
accesses_of events = count_by (λ s. is_access s.event) events

-- how many accesses an instruction makes
abbrev pub accesses_made : Instr → ℕ
accesses_made (Ldb k b r) = 1
accesses_made (Stb k) = 1
accesses_made other = 0

-- What a step of a run takes: the place of its instruction, the cycles from the state before it to the state after it,
-- with those that an access waits, and the accesses that it shows.
pub record Taken : Type 0 where
  pub place : ℕ
  pub cycles : ℕ
  pub accesses : ℕ

abbrev pub accesses_in : Option Observed → ℕ
accesses_in None = 0
accesses_in (Some event) = 1

abbrev pub taken_by : State → Option Observed → State → Taken
taken_by s event next =
    record { place = s.place; cycles = next.cycle - s.cycle; accesses = accesses_in event }

-- some steps lead from one state to another, and take this, the last step first
pub data Takes (o : Parts) (s : State) : List Taken → State → Type 0 where
  Begun : Takes o s [] s
  Then : (taken : List Taken) (t : State) (event : Option Observed) (next : State) → Takes o s taken t
      → step o t ≡ Goes event next → Takes o s (taken_by t event next ∷ taken) next

-- Where the instruction at a place is counted: as the list says, if it names one of the rows. Otherwise in the first row.
abbrev pub first_row : Part
first_row = record { row = 0; pads = false }

abbrev pub part_if : ℕ → Part → Part
part_if rows part = if nat_lt part.row rows then part else first_row

abbrev pub part_of : List Part → ℕ → ℕ → Part
part_of parts rows place = part_if rows (slice_index_or parts place first_row)

-- the cycles of a step that are padding
abbrev pub padding_in : List Part → ℕ → Taken → ℕ
padding_in parts rows x = if (part_of parts rows x.place).pads then x.cycles else 0

-- what the steps of row r take together
abbrev pub in_row : List Part → ℕ → (Taken → ℕ) → ℕ → Taken → ℕ
in_row parts rows f r x = if (part_of parts rows x.place).row == r then f x else 0

abbrev pub total : List ℕ → ℕ
total counts = sum_by (λ n. n) counts

-- Each count is the sum over the steps of its row, and all counts together are the sum over all steps.
pub record AddsUp (parts : List Part) (rows : ℕ) (f : Taken → ℕ) (taken : List Taken) (counts : List ℕ) : Type 0 where
  pub count : length counts ≡ rows
  pub each : (r : ℕ) → r < rows → slice_index counts r ≡ sum_by (in_row parts rows f r) taken
  pub all : total counts ≡ sum_by f taken

-- a run that is in this state ends so below cycle n
abbrev pub EndsIn : Parts → State → ℕ → End → Type 0
EndsIn o s n (end.Halted at) = ((last : State) × (step o s ≡ Stops last)) × (s.cycle ≡ at)
EndsIn o s n end.Spent = (n ≤ step_start o s) ⊎ (step o s ≡ Faults)

-- The steps of a run below cycle n are counted, each in the row of its instruction.
pub record CountsSteps (o : Parts) (s : State) (n : ℕ) (parts : List Part) (rows : ℕ) (costs : Costs) : Type 0 where
  pub taken : List Taken
  pub last : State
  pub run : Takes o s taken last
  pub ended : EndsIn o last n costs.end
  pub cycles : AddsUp parts rows (λ x. x.cycles) taken costs.cycles.items
  pub accesses : AddsUp parts rows (λ x. x.accesses) taken costs.accesses.items
  pub padding : AddsUp parts rows (padding_in parts rows) taken costs.padding.items

-- the cycle at which a run ends: that of its halt, or that of the state that it leaves
abbrev pub end_cycle : End → State → ℕ
end_cycle (end.Halted at) last = at
end_cycle end.Spent last = last.cycle
