-- The accesses of a run that is interrupted, and of the run that resumes from there.
use Rattle.std.proofs.Common.{◌≡◌, ℕ, zero, suc, ◌+◌, ◌<◌, ◌≤◌, [], ◌++◌, Option, None, refl, sym, ap, ◌∙◌, subst, ⊎_elim, arith}
use Rattle.std.proofs.lemmas.Bool.{cases_lt}
use Rattle.std.proofs.lemmas.List.{append_assoc}
use Rattle.std.proofs.lemmas.List.Elements.{Contains-append_right}
use Rattle.lt_isa.specs.Prelude.{Parts, IsInRange, State, Observed, Halted, StepResult, Goes, Stops, Faults, step, step_start, IsShaped, HaltsAt, seen_at, stamped, trace_from, final_from}
use Rattle.lt_isa.proofs.Runs.{trace_from-goes, trace_from-stops, final_from-past, final_from-goes, final_from-faults}
use Rattle.lt_isa.proofs.Steps.{step_start-least, step-later}
use Rattle.lt_isa.proofs.Shapes.{step-shaped}
use Rattle.banks.specs.Prelude.{ShowsItsAccess, accessed, accesses_from, at_most_one}
use Rattle.banks.proofs.ShownAccesses.{shows_its_access}
use Rattle.banks.proofs.AccessRuns.{accesses_from-past, accesses_from-step}

module _ (o : Parts) (fits : IsInRange o) where
  -- one step, by its outcome; `rest` states the same about the state after it
  resumed_step : (s : State) → IsShaped o s → (n m : ℕ) → n ≤ m → step_start o s < n
      → ((at : ℕ) → HaltsAt (trace_from o s n) at → ⊥)
      → ((event : Option Observed) (t : State) → step o s ≡ Goes event t
      → ((at : ℕ) → HaltsAt (trace_from o t n) at → ⊥)
      → accesses_from o t m ≡ accesses_from o t n ++ accesses_from o (final_from o t n) m)
      → (outcome : StepResult) → step o s ≡ outcome
      → accesses_from o s m ≡ accesses_from o s n ++ accesses_from o (final_from o s n) m
  resumed_step s shaped n m le less none rest (Goes event t) is =
      let made = at_most_one (accessed o s) in
      let shows = trace_from-goes o fits s event t n shaped is less in
      let quiet : (at : ℕ) → HaltsAt (trace_from o t n) at → ⊥ =
      λ at halts. none at (subst (λ es. HaltsAt es at) (sym shows)
      (Contains-append_right (stamped (step_start o s) event) (trace_from o t n) (seen_at at Halted) halts)) in
      accesses_from-step o fits s (Goes event t) m shaped is (omega (arith, less, le))
      ∙ ap (λ later. made ++ later) (rest event t is quiet)
      ∙ sym (append_assoc made (accesses_from o t n) (accesses_from o (final_from o t n) m))
      ∙ ap (λ f. (made ++ accesses_from o t n) ++ accesses_from o f m)
      (sym (final_from-goes o fits s event t n shaped is less))
      ∙ ap (λ first. first ++ accesses_from o (final_from o s n) m)
      (sym (accesses_from-step o fits s (Goes event t) n shaped is less))
  resumed_step s shaped n m le less none rest (Stops t) is =
      absurd (none (step_start o s) (subst (λ es. HaltsAt es (step_start o s))
      (sym (trace_from-stops o fits s t n shaped is less)) (0, omega arith, refl)))
  resumed_step s shaped n m le less none rest Faults is =
      let nothing : accessed o s ≡ None =
      subst (λ outcome. ShowsItsAccess outcome (accessed o s)) is (shows_its_access o s) in
      let first : accesses_from o s n ≡ [] =
      accesses_from-step o fits s Faults n shaped is less ∙ ap (λ made. at_most_one made ++ []) nothing in
      let state : final_from o s n ≡ s = final_from-faults o fits s n shaped is in
      sym (ap (λ f. accesses_from o s n ++ accesses_from o f m) state
      ∙ ap (λ made. made ++ accesses_from o s m) first)

  past_resumed : (s : State) (n m : ℕ) → n ≤ step_start o s
      → accesses_from o s m ≡ accesses_from o s n ++ accesses_from o (final_from o s n) m
  past_resumed s n m past =
      sym (ap (λ f. accesses_from o s n ++ accesses_from o f m) (final_from-past o s n past)
      ∙ ap (λ made. made ++ accesses_from o s m) (accesses_from-past o s n past))

  resumed_within : (left : ℕ) (s : State) → IsShaped o s → (n m : ℕ) → n ≤ m → n ≤ s.cycle + left
      → ((at : ℕ) → HaltsAt (trace_from o s n) at → ⊥)
      → accesses_from o s m ≡ accesses_from o s n ++ accesses_from o (final_from o s n) m
  resumed_within zero s shaped n m le few none = past_resumed s n m (omega (arith, step_start-least o s, few))
  resumed_within (suc left) s shaped n m le few none =
      ⊎_elim
      (λ less. resumed_step s shaped n m le less none
      (λ event t goes quiet.
      let later = step-later o fits s shaped event t goes in
      resumed_within left t (step-shaped o fits s shaped event t goes) n m le
      (omega (arith, later, few, step_start-least o s)) quiet)
      (step o s) refl)
      (past_resumed s n m)
      (cases_lt (step_start o s) n)

  -- the accesses of a run that was interrupted before its halt, and then of the resumed run, are those of a single run
  pub accesses_resumed : (s : State) → IsShaped o s → (n m : ℕ) → n ≤ m
      → ((at : ℕ) → HaltsAt (trace_from o s n) at → ⊥)
      → accesses_from o s m ≡ accesses_from o s n ++ accesses_from o (final_from o s n) m
  accesses_resumed s shaped n m le none = resumed_within n s shaped n m le (omega arith) none
