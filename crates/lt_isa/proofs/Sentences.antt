-- Traces and final states satisfy the relations that define them, and nothing else does; and inputs that agree may
-- differ.
use Rattle.std.proofs.Common.{◌≡◌, ℕ, zero, suc, ◌+◌, ◌<◌, ◌≤◌, ℤ, List, [], ◌∷◌, get_or, Some, refl, sym, ap, ◌∙◌, subst, ⊎_elim, arith}
use Rattle.std.specs.Prelude.{slice_get}
use Rattle.std.proofs.lemmas.Bool.{cases_lt}
use Rattle.gr_word.specs.declared.variables.Label.{Label}
use Rattle.gr_word.specs.declared.variables.Label.TheVariants.{Public, Secret}
use Rattle.gr_word.specs.Prelude.{IsWord}
use Rattle.lt_isa.specs.declared.symbols.Symbol.{Symbol}
use Rattle.lt_isa.specs.Prelude.{Parts, IsInRange, State, IsShaped, step, step_start, Stamped, trace_from, final_from, AreTraces, AreFinals, OneSecret, one_word, Agree, FitsObject}
use Rattle.lt_isa.proofs.Steps.{step_start-least, step-later}
use Rattle.lt_isa.proofs.Shapes.{step-shaped}
use Rattle.lt_isa.proofs.Runs.{trace_from-past, trace_from-more, final_from-past, final_from-more, shown_then-same, left_then-same}

-- the computing form of traces satisfies their relation
pub are_traces : (o : Parts) → IsInRange o → AreTraces o (trace_from o)
are_traces o fits = record { past = trace_from-past o; more = trace_from-more o fits }

-- the computing form of final states satisfies theirs
pub are_finals : (o : Parts) → IsInRange o → AreFinals o (final_from o)
are_finals o fits = record { past = final_from-past o; more = final_from-more o fits }

module _ (o : Parts) (fits : IsInRange o) (events : State → ℕ → List Stamped) (are : AreTraces o events) where
  -- by induction on the cycles that are left
  same_within : (left : ℕ) (s : State) → IsShaped o s → (n : ℕ) → n ≤ s.cycle + left → events s n ≡ trace_from o s n
  same_within zero s shaped n few =
      are.past s n (omega (arith, step_start-least o s, few))
      ∙ sym (trace_from-past o s n (omega (arith, step_start-least o s, few)))
  same_within (suc left) s shaped n few =
      ⊎_elim
      (λ less.
      are.more s n shaped less
      ∙ shown_then-same (step_start o s) (step o s) _ _ (λ event t goes.
      let later = step-later o fits s shaped event t goes in
      same_within left t (step-shaped o fits s shaped event t goes) n
      (omega (arith, later, few, step_start-least o s)))
      ∙ sym (trace_from-more o fits s n shaped less))
      (λ past. are.past s n past ∙ sym (trace_from-past o s n past))
      (cases_lt (step_start o s) n)

  -- the relation of traces has one solution
  pub no_other_traces : (s : State) → IsShaped o s → (n : ℕ) → events s n ≡ trace_from o s n
  no_other_traces s shaped n = same_within n s shaped n (omega arith)

module _ (o : Parts) (fits : IsInRange o) (left : State → ℕ → State) (are : AreFinals o left) where
  -- by induction on the cycles that are left
  same_final_within : (more : ℕ) (s : State) → IsShaped o s → (n : ℕ) → n ≤ s.cycle + more → left s n ≡ final_from o s n
  same_final_within zero s shaped n few =
      are.past s n (omega (arith, step_start-least o s, few))
      ∙ sym (final_from-past o s n (omega (arith, step_start-least o s, few)))
  same_final_within (suc more) s shaped n few =
      ⊎_elim
      (λ less.
      are.more s n shaped less
      ∙ left_then-same s (step o s) _ _ (λ event t goes.
      let later = step-later o fits s shaped event t goes in
      same_final_within more t (step-shaped o fits s shaped event t goes) n
      (omega (arith, later, few, step_start-least o s)))
      ∙ sym (final_from-more o fits s n shaped less))
      (λ past. are.past s n past ∙ sym (final_from-past o s n past))
      (cases_lt (step_start o s) n)

  -- the relation of final states has one solution
  pub no_other_finals : (s : State) → IsShaped o s → (n : ℕ) → left s n ≡ final_from o s n
  no_other_finals s shaped n = same_final_within n s shaped n (omega arith)

-- inputs with two words for a secret scalar agree
pub secrets_differ : (o : Parts) → OneSecret o → (x y : ℤ) → IsWord x → IsWord y → Agree o (one_word x) (one_word y)
secrets_differ o one x y fx fy = record {
  first_fits = fits x fx;
  second_fits = fits y fy;
  public_words = λ k s is is_public. each k s (subst (λ symbols. slice_get symbols k ≡ Some s) one.only is) is_public;
}
  where
    fits : (z : ℤ) → IsWord z → FitsObject o (one_word z)
    fits z fz = rw one.only (sym one.scalar, λ i d within. one_fits z fz i d within, tt)
      where
        one_fits : (z : ℤ) → IsWord z → (i : ℕ) (d : ℤ) → i < 1 → IsWord (get_or (z ∷ []) i d)
        one_fits z fz zero d within = fz
        one_fits z fz (suc i) d within = absurd (omega arith)

    no_public : one.symbol.label ≡ Public → ⊥
    no_public is = let f : ◌≡◌ {A = Label} Secret Public = sym one.secret ∙ is in cc

    each : (k : ℕ) (s : Symbol) → slice_get (one.symbol ∷ []) k ≡ Some s → s.label ≡ Public
        → slice_get (one_word x) k ≡ slice_get (one_word y) k
    each zero s is is_public =
        let same : one.symbol ≡ s = cc in absurd (no_public (ap (λ (t : Symbol). t.label) same ∙ is_public))
    each (suc k) s is is_public = refl
