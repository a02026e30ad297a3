-- The accesses of a run, step by step.
use Rattle.std.proofs.Common.{◌≡◌, ℕ, zero, suc, ◌+◌, ◌<◌, ◌≤◌, cond, ltb, List, [], ◌++◌, Option, Some, None, refl, sym, ap, ◌∙◌, ⊎_elim, arith}
use Rattle.std.specs.Prelude.{slice_get}
use Rattle.std.proofs.lemmas.Bool.{cases_lt, cond_below, cond_above}
use Rattle.lt_isa.specs.declared.instructions.Instr.{Instr}
use Rattle.lt_isa.specs.Prelude.{Parts, IsInRange, State, Observed, StepResult, Goes, Stops, Faults, step, step_start, IsShaped}
use Rattle.lt_isa.proofs.Steps.{step_start-least, step-later}
use Rattle.lt_isa.proofs.Shapes.{step-shaped}
use Rattle.banks.specs.Prelude.{Access, accessed, accessed_by, accessed_if, accessed_then, accesses_within, accesses_from, at_most_one, AreAccesses}

-- a step at a place of the code makes the access of the instruction there
pub accessed-at : (o : Parts) (s : State) (i : Instr)
    → slice_get o.code s.place ≡ Some i → accessed o s ≡ accessed_by o s i
unfolding accessed
accessed-at o s i at = ap (accessed_if o s) at

-- a step outside the code makes no access
pub accessed-outside : (o : Parts) (s : State) → slice_get o.code s.place ≡ None → accessed o s ≡ None
unfolding accessed
accessed-outside o s at = ap (accessed_if o s) at

accessed_then-same : (outcome : StepResult) (f g : State → List Access)
    → ((event : Option Observed) (t : State) → outcome ≡ Goes event t → f t ≡ g t)
    → accessed_then outcome f ≡ accessed_then outcome g
accessed_then-same (Goes event t) f g same = same event t refl
accessed_then-same (Stops t) f g same = refl
accessed_then-same Faults f g same = refl

-- no accesses below a cycle that isn't above the start of the next step
accesses_within-past : (k : ℕ) (o : Parts) (s : State) (n : ℕ) → n ≤ step_start o s → accesses_within k o s n ≡ []
unfolding accesses_within
accesses_within-past zero o s n past = refl
accesses_within-past (suc k) o s n past = sym (cond_above (step_start o s) n _ _ _ past refl)

-- nothing is accessed if the next step starts at n or later
pub accesses_from-past : (o : Parts) (s : State) (n : ℕ) → n ≤ step_start o s → accesses_from o s n ≡ []
unfolding accesses_from
accesses_from-past o s n past = accesses_within-past n o s n past

module _ (o : Parts) (fits : IsInRange o) where
  -- as many steps as there are cycles left are enough; more change nothing
  accesses_within-enough : (j k : ℕ) (s : State) (n : ℕ)
      → IsShaped o s → n ≤ s.cycle + j → n ≤ s.cycle + k → accesses_within j o s n ≡ accesses_within k o s n
  unfolding accesses_within
  accesses_within-enough zero k s n shaped first second =
      sym (accesses_within-past k o s n (omega (arith, step_start-least o s)))
  accesses_within-enough (suc j) zero s n shaped first second =
      accesses_within-past (suc j) o s n (omega (arith, step_start-least o s))
  accesses_within-enough (suc j) (suc k) s n shaped first second =
      ap (λ rest. cond (ltb (step_start o s) n) (at_most_one (accessed o s) ++ rest) [])
      (accessed_then-same (step o s) _ _ (λ event t goes.
      let later = step-later o fits s shaped event t goes in
      accesses_within-enough j k t n (step-shaped o fits s shaped event t goes)
      (omega (arith, step_start-least o s))
      (omega (arith, step_start-least o s))))

  -- if a step starts below the cycle, its access and then the accesses from the state after it
  pub accesses_from-more : (s : State) (n : ℕ) → IsShaped o s → step_start o s < n
      → accesses_from o s n ≡ at_most_one (accessed o s) ++ accessed_then (step o s) (λ t. accesses_from o t n)
  unfolding accesses_from accesses_within
  accesses_from-more s zero shaped less = absurd (omega arith)
  accesses_from-more s (suc k) shaped less =
      sym (cond_below (step_start o s) (suc k) _ _ less)
      ∙ ap (λ rest. at_most_one (accessed o s) ++ rest) (accessed_then-same (step o s) _ _ (λ event t goes.
      let later = step-later o fits s shaped event t goes in
      accesses_within-enough k (suc k) t (suc k) (step-shaped o fits s shaped event t goes)
      (omega arith) (omega arith)))

  -- if a step with a given outcome starts below the cycle, its access and then the accesses after that outcome
  pub accesses_from-step : (s : State) (outcome : StepResult) (n : ℕ)
      → IsShaped o s → step o s ≡ outcome → step_start o s < n
      → accesses_from o s n ≡ at_most_one (accessed o s) ++ accessed_then outcome (λ t. accesses_from o t n)
  accesses_from-step s outcome n shaped is less =
      accesses_from-more s n shaped less
      ∙ ap (λ r. at_most_one (accessed o s) ++ accessed_then r (λ t. accesses_from o t n)) is

-- the computing form of accesses satisfies their relation
pub are_accesses : (o : Parts) → IsInRange o → AreAccesses o (accesses_from o)
are_accesses o fits = record { past = accesses_from-past o; more = accesses_from-more o fits }

module _ (o : Parts) (fits : IsInRange o) (accesses : State → ℕ → List Access) (are : AreAccesses o accesses) where
  -- by induction on the cycles that are left
  same_within : (left : ℕ) (s : State) → IsShaped o s → (n : ℕ) → n ≤ s.cycle + left → accesses s n
      ≡ accesses_from o s n
  same_within zero s shaped n few =
      are.past s n (omega (arith, step_start-least o s, few))
      ∙ sym (accesses_from-past o s n (omega (arith, step_start-least o s, few)))
  same_within (suc left) s shaped n few =
      ⊎_elim
      (λ less.
      are.more s n shaped less
      ∙ ap (λ rest. at_most_one (accessed o s) ++ rest) (accessed_then-same (step o s) _ _ (λ event t goes.
      let later = step-later o fits s shaped event t goes in
      same_within left t (step-shaped o fits s shaped event t goes) n
      (omega (arith, later, few, step_start-least o s))))
      ∙ sym (accesses_from-more o fits s n shaped less))
      (λ past. are.past s n past ∙ sym (accesses_from-past o s n past))
      (cases_lt (step_start o s) n)

  -- the relation of accesses has one solution
  pub no_other_accesses : (s : State) → IsShaped o s → (n : ℕ) → accesses s n ≡ accesses_from o s n
  no_other_accesses s shaped n = same_within n s shaped n (omega arith)
