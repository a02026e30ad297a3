-- Runs of the machine: traces and final states step by step, and over stretches of steps.
use Rattle.std.proofs.Common.{◌≡◌, ℕ, zero, suc, ◌+◌, ◌<◌, ◌≤◌, cond, ltb, List, [], ◌++◌, Option, Some, refl, sym, ap, ◌∙◌, ⊎_elim, arith}
use Rattle.std.proofs.lemmas.Bool.{cases_lt, cond_below, cond_above}
use Rattle.lt_isa.specs.Prelude.{Parts, IsInRange, State, Observed, Halted, StepResult, Goes, Stops, Faults, step, step_start, Stamped, stamped, shown_then, left_then, trace_within, final_within, trace_from, final_from, IsShaped}
use Rattle.lt_isa.proofs.Steps.{step_start-least, step-later}
use Rattle.lt_isa.proofs.Shapes.{step-shaped}

-- what is shown from a step on depends only on what is shown from the state to which it may lead
pub shown_then-same : (at : ℕ) (outcome : StepResult) (f g : State → List Stamped)
    → ((event : Option Observed) (t : State) → outcome ≡ Goes event t → f t ≡ g t)
    → shown_then at outcome f ≡ shown_then at outcome g
shown_then-same at (Goes event t) f g same = ap (λ rest. stamped at event ++ rest) (same event t refl)
shown_then-same at (Stops t) f g same = refl
shown_then-same at Faults f g same = refl

-- what is left from a step on depends only on what is left from the state to which it may lead
pub left_then-same : (s : State) (outcome : StepResult) (f g : State → State)
    → ((event : Option Observed) (t : State) → outcome ≡ Goes event t → f t ≡ g t)
    → left_then s outcome f ≡ left_then s outcome g
left_then-same s (Goes event t) f g same = same event t refl
left_then-same s (Stops t) f g same = refl
left_then-same s Faults f g same = refl

-- no events below a cycle that isn't above the start of the next step
trace_within-past : (k : ℕ) (o : Parts) (s : State) (n : ℕ) → n ≤ step_start o s → trace_within k o s n ≡ []
unfolding trace_within
trace_within-past zero o s n past = refl
trace_within-past (suc k) o s n past = sym (cond_above (step_start o s) n _ _ _ past refl)

final_within-past : (k : ℕ) (o : Parts) (s : State) (n : ℕ) → n ≤ step_start o s → final_within k o s n ≡ s
unfolding final_within
final_within-past zero o s n past = refl
final_within-past (suc k) o s n past = sym (cond_above (step_start o s) n _ _ _ past refl)

-- nothing is shown if the next step starts at n or later
pub trace_from-past : (o : Parts) (s : State) (n : ℕ) → n ≤ step_start o s → trace_from o s n ≡ []
unfolding trace_from
trace_from-past o s n past = trace_within-past n o s n past

-- the state stays if the next step starts at n or later
pub final_from-past : (o : Parts) (s : State) (n : ℕ) → n ≤ step_start o s → final_from o s n ≡ s
unfolding final_from
final_from-past o s n past = final_within-past n o s n past

module _ (o : Parts) (fits : IsInRange o) where
  -- as many steps as there are cycles left are enough; more change nothing
  pub trace_within-enough : (j k : ℕ) (s : State) (n : ℕ) → IsShaped o s → n ≤ s.cycle + j → n ≤ s.cycle + k
      → trace_within j o s n ≡ trace_within k o s n
  unfolding trace_within
  trace_within-enough zero k s n shaped first second =
      sym (trace_within-past k o s n (omega (arith, step_start-least o s)))
  trace_within-enough (suc j) zero s n shaped first second =
      trace_within-past (suc j) o s n (omega (arith, step_start-least o s))
  trace_within-enough (suc j) (suc k) s n shaped first second =
      ap (λ shown. cond (ltb (step_start o s) n) shown [])
      (shown_then-same (step_start o s) (step o s) _ _ (λ event t goes.
      let later = step-later o fits s shaped event t goes in
      trace_within-enough j k t n (step-shaped o fits s shaped event t goes)
      (omega (arith, step_start-least o s))
      (omega (arith, step_start-least o s))))

  pub final_within-enough : (j k : ℕ) (s : State) (n : ℕ) → IsShaped o s → n ≤ s.cycle + j → n ≤ s.cycle + k
      → final_within j o s n ≡ final_within k o s n
  unfolding final_within
  final_within-enough zero k s n shaped first second =
      sym (final_within-past k o s n (omega (arith, step_start-least o s)))
  final_within-enough (suc j) zero s n shaped first second =
      final_within-past (suc j) o s n (omega (arith, step_start-least o s))
  final_within-enough (suc j) (suc k) s n shaped first second =
      ap (λ left. cond (ltb (step_start o s) n) left s)
      (left_then-same s (step o s) _ _ (λ event t goes.
      let later = step-later o fits s shaped event t goes in
      final_within-enough j k t n (step-shaped o fits s shaped event t goes)
      (omega (arith, step_start-least o s))
      (omega (arith, step_start-least o s))))

  -- if a step starts below the cycle, its event and then what is shown from the state after it
  pub trace_from-more : (s : State) (n : ℕ) → IsShaped o s → step_start o s < n
      → trace_from o s n ≡ shown_then (step_start o s) (step o s) (λ t. trace_from o t n)
  unfolding trace_from trace_within
  trace_from-more s zero shaped less = absurd (omega arith)
  trace_from-more s (suc k) shaped less =
      sym (cond_below (step_start o s) (suc k) _ _ less)
      ∙ shown_then-same (step_start o s) (step o s) _ _ (λ event t goes.
      let later = step-later o fits s shaped event t goes in
      trace_within-enough k (suc k) t (suc k) (step-shaped o fits s shaped event t goes) (omega arith) (omega arith))

  -- if a step starts below the cycle, what is left from the state after it
  pub final_from-more : (s : State) (n : ℕ) → IsShaped o s → step_start o s < n
      → final_from o s n ≡ left_then s (step o s) (λ t. final_from o t n)
  unfolding final_from final_within
  final_from-more s zero shaped less = absurd (omega arith)
  final_from-more s (suc k) shaped less =
      sym (cond_below (step_start o s) (suc k) _ _ less)
      ∙ left_then-same s (step o s) _ _ (λ event t goes.
      let later = step-later o fits s shaped event t goes in
      final_within-enough k (suc k) t (suc k) (step-shaped o fits s shaped event t goes) (omega arith) (omega arith))

  -- the trace over a step that leads to a state
  pub trace_from-goes : (s : State) (event : Option Observed) (t : State) (n : ℕ) → IsShaped o s
      → step o s ≡ Goes event t → step_start o s < n
      → trace_from o s n ≡ stamped (step_start o s) event ++ trace_from o t n
  trace_from-goes s event t n shaped goes less =
      trace_from-more s n shaped less ∙ ap (λ r. shown_then (step_start o s) r (λ t. trace_from o t n)) goes

  -- the final state over a step that leads to a state
  pub final_from-goes : (s : State) (event : Option Observed) (t : State) (n : ℕ) → IsShaped o s
      → step o s ≡ Goes event t → step_start o s < n → final_from o s n ≡ final_from o t n
  final_from-goes s event t n shaped goes less =
      final_from-more s n shaped less ∙ ap (λ r. left_then s r (λ t. final_from o t n)) goes

  -- the trace at a step that stops
  pub trace_from-stops : (s t : State) (n : ℕ) → IsShaped o s → step o s ≡ Stops t → step_start o s < n
      → trace_from o s n ≡ stamped (step_start o s) (Some Halted)
  trace_from-stops s t n shaped stops less =
      trace_from-more s n shaped less ∙ ap (λ r. shown_then (step_start o s) r (λ t. trace_from o t n)) stops

  -- the final state at a step that stops
  pub final_from-stops : (s t : State) (n : ℕ) → IsShaped o s → step o s ≡ Stops t → step_start o s < n
      → final_from o s n ≡ t
  final_from-stops s t n shaped stops less =
      final_from-more s n shaped less ∙ ap (λ r. left_then s r (λ t. final_from o t n)) stops

  -- a fault shows nothing
  pub trace_from-faults : (s : State) (n : ℕ) → IsShaped o s → step o s ≡ Faults → trace_from o s n ≡ []
  trace_from-faults s n shaped faults =
      ⊎_elim
      (λ less. trace_from-more s n shaped less ∙ ap (λ r. shown_then (step_start o s) r (λ t. trace_from o t n)) faults)
      (λ past. trace_from-past o s n past)
      (cases_lt (step_start o s) n)

  -- a fault changes nothing
  pub final_from-faults : (s : State) (n : ℕ) → IsShaped o s → step o s ≡ Faults → final_from o s n ≡ s
  final_from-faults s n shaped faults =
      ⊎_elim
      (λ less. final_from-more s n shaped less ∙ ap (λ r. left_then s r (λ t. final_from o t n)) faults)
      (λ past. final_from-past o s n past)
      (cases_lt (step_start o s) n)
