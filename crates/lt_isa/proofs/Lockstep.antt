-- Two runs show the same events, and one run meets no fault, if each step or stretch keeps a relation or a property of
-- states.
use Rattle.std.proofs.Common.{◌≡◌, ℕ, zero, suc, ◌+◌, ◌≤◌, List, ◌++◌, Some, ◌⊎◌, refl, sym, ap, ◌∙◌, ⊎_elim, arith}
use Rattle.lt_isa.specs.Prelude.{Parts, IsInRange, State, Halted, Stops, step, step_start, Stamped, stamped, trace_from, Reaches, IsShaped}
use Rattle.lt_isa.proofs.Steps.{step_start-least}
use Rattle.lt_isa.proofs.Runs.{trace_from-past}
use Rattle.lt_isa.proofs.Stretches.{below, reaches-shaped, alike_over, trace_split-stops}

-- stretches from two states show the same events, lead to related states, and take some cycles
pub record Meets (o : Parts) (Related : State → State → Type 0) (s t : State) : Type 0 where
  pub events : List Stamped
  pub first : State
  pub second : State
  pub first_reached : Reaches o s events first
  pub second_reached : Reaches o t events second
  pub first_later : s.cycle + 1 ≤ first.cycle
  pub second_later : t.cycle + 1 ≤ second.cycle
  pub related : Related first second

-- after stretches that show the same events, both runs halt at the same cycle
pub record StopsAlike (o : Parts) (s t : State) : Type 0 where
  pub events : List Stamped
  pub first : State
  pub second : State
  pub first_last : State
  pub second_last : State
  pub first_reached : Reaches o s events first
  pub second_reached : Reaches o t events second
  pub first_stops : step o first ≡ Stops first_last
  pub second_stops : step o second ≡ Stops second_last
  pub same_start : step_start o first ≡ step_start o second

module _ (o : Parts) (fits : IsInRange o) (Related : State → State → Type 0)
    (keeps : (s t : State) → Related s t → IsShaped o s → IsShaped o t → Meets o Related s t ⊎ StopsAlike o s t) where
  stops-alike : (s t : State) → IsShaped o s → IsShaped o t → StopsAlike o s t → (n : ℕ)
      → trace_from o s n ≡ trace_from o t n
  stops-alike s t shape_s shape_t ends n =
      trace_split-stops o fits s ends.events ends.first ends.first_last ends.first_reached shape_s ends.first_stops n
      ∙ ap (λ start. below n (ends.events ++ stamped start (Some Halted))) ends.same_start
      ∙ sym (trace_split-stops o fits t ends.events ends.second ends.second_last ends.second_reached
      shape_t ends.second_stops n)

  lockstep_over-by : (k : ℕ) (s t : State) → Related s t → IsShaped o s → IsShaped o t → (n : ℕ) → n ≤ s.cycle + k
      → n ≤ t.cycle + k → trace_from o s n ≡ trace_from o t n
  lockstep_over-by zero s t related shape_s shape_t n by_s by_t =
      trace_from-past o s n (omega (arith, step_start-least o s))
      ∙ sym (trace_from-past o t n (omega (arith, step_start-least o t)))
  lockstep_over-by (suc k) s t related shape_s shape_t n by_s by_t =
      ⊎_elim
      (λ meets.
      alike_over o fits s t meets.events meets.events meets.first meets.second meets.first_reached meets.second_reached
      shape_s shape_t refl n
      (lockstep_over-by k meets.first meets.second meets.related
      (reaches-shaped o fits s meets.events meets.first meets.first_reached shape_s)
      (reaches-shaped o fits t meets.events meets.second meets.second_reached shape_t)
      n (omega (arith, meets.first_later)) (omega (arith, meets.second_later))))
      (λ ends. stops-alike s t shape_s shape_t ends n)
      (keeps s t related shape_s shape_t)

  -- related states show the same events if stretches from them show the same events and lead to related states
  pub lockstep_over : (s t : State) → Related s t → IsShaped o s → IsShaped o t → (n : ℕ)
      → trace_from o s n ≡ trace_from o t n
  lockstep_over s t related shape_s shape_t n =
      lockstep_over-by n s t related shape_s shape_t n (omega arith) (omega arith)
