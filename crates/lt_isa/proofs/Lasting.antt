-- A run that is still going at a cycle hasn't halted below it.
use Rattle.std.proofs.Common.{◌≡◌, ℕ, ◌≤◌, List, Option, refl, sym, ap, ◌∙◌, ⊎_elim, arith}
use Rattle.lt_isa.specs.Prelude.{Parts, IsInRange, State, Observed, Goes, Stops, step, IsShaped, Stamped, trace_from, final_from, HaltsAt, Reaches, Here, Then}
use Rattle.lt_isa.proofs.Steps.{step_start-least}
use Rattle.lt_isa.proofs.Stretches.{reaches-shaped, reaches-cycle, reaches-linear}
use Rattle.lt_isa.proofs.Ends.{halted-from_halt}

goes-stops : (event : Option Observed) (t u : State) → Goes event t ≡ Stops u → ⊥
goes-stops event t u e = cc

-- if the next step stops the run, no steps lead to another state
stopped-here : (o : Parts) (s : State) (es : List Stamped) (u : State) → Reaches o s es u → (t : State)
    → step o s ≡ Stops t → s ≡ u
stopped-here o s es u (Here s') t stops = refl
stopped-here o s es u (Then s' event m fs u' goes rest) t stops = absurd (goes-stops event m t (sym goes ∙ stops))

-- a trace up to the cycle of a state that the run reaches has no halt
pub lasting-no_halt : (o : Parts) → IsInRange o → (s : State) → IsShaped o s → (es : List Stamped) (u : State)
    → Reaches o s es u
    → (n : ℕ) → n ≤ u.cycle → (at : ℕ) → HaltsAt (trace_from o s n) at → ⊥
lasting-no_halt o fits s shaped es u reaches n late at halts =
    let halted = halted-from_halt o fits s shaped n at halts in
    ⊎_elim
    (λ (gs, is, further).
    omega (
      arith,
      late,
      halted.in_time,
      step_start-least o halted.last,
      reaches-cycle o fits u gs halted.last further (reaches-shaped o fits s es u reaches shaped),
    ))
    (λ (gs, is, further).
    let same = stopped-here o halted.last gs u further (final_from o s n) halted.stopped in
    omega (arith, late, halted.in_time, step_start-least o halted.last, ap (λ (x : State). x.cycle) same))
    (reaches-linear o s es halted.before u halted.last reaches halted.reached)
