-- How far a run was counted. (Only private clauses and proofs say so.)
use Rattle.std.specs.Prelude.{◌≡◌, ◌≤◌, ℕ, ◌+◌, List, slice_index, slice_set, sum_by}
use Rattle.lt_isa.specs.Machine.{State}
use Rattle.lt_isa.specs.Object.{Parts}
use Rattle.lt_isa.specs.Shape.{IsShaped}
use Rattle.lt_isa.specs.Trace.{final_from, trace_from}
use Rattle.processor.specs.declared.ends.End.{End}
use Rattle.processor.specs.Ends.{EndsAs}
use Rattle.line_costs.specs.Costs.{AddsUp, Taken, Takes, accesses_of, padding_in}
use Rattle.line_costs.specs.declared.costs.Costs.{Costs}
use Rattle.line_costs.specs.declared.costs.Part.{Part}

-- counts of which that of a row is greater by this
abbrev pub added : List ℕ → ℕ → ℕ → List ℕ
added counts r more = slice_set counts r (slice_index counts r + more)

-- the steps from state s to state `now` are counted, and what is left of the run up to cycle n is the run from there
pub record CountedSoFar (o : Parts) (s : State) (n : ℕ) (parts : List Part) (rows : ℕ) (now : State) (costs : Costs)
    : Type 0 where
  pub taken : List Taken
  pub run : Takes o s taken now
  pub shaped : IsShaped o now
  pub cycles : AddsUp parts rows (λ x. x.cycles) taken costs.cycles.items
  pub accesses : AddsUp parts rows (λ x. x.accesses) taken costs.accesses.items
  pub padding : AddsUp parts rows (padding_in parts rows) taken costs.padding.items
  pub elapsed : sum_by (λ (x : Taken). x.cycles) taken ≡ now.cycle
  pub few : sum_by (λ (x : Taken). x.accesses) taken ≤ now.cycle
  pub padded : sum_by (padding_in parts rows) taken ≤ now.cycle
  pub shown : accesses_of (trace_from o s n)
      ≡ sum_by (λ (x : Taken). x.accesses) taken + accesses_of (trace_from o now n)
  pub ends : (how : End) → EndsAs (trace_from o now n) how → EndsAs (trace_from o s n) how
  pub final : final_from o s n ≡ final_from o now n
