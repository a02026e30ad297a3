-- Stretches of a run: steps that lead from one state to another, and what is shown and left from there.
use Rattle.std.proofs.Common.{◌≡◌, ℕ, ◌<◌, ◌≤◌, cond, ltb, List, [], ◌++◌, Option, Some, None, ◌⊎◌, inl, inr, refl, sym, ap, ◌∙◌, subst, ⊎_elim, arith, append_assoc, lt-ltb, le-ltb}
use Rattle.std.specs.List.{filter}
use Rattle.std.proofs.lemmas.Bool.{cases_lt}
use Rattle.std.proofs.lemmas.List.{append-nil}
use Rattle.std.proofs.lemmas.List.Elements.{filter-append}
use Rattle.lt_isa.specs.Prelude.{Parts, IsInRange, State, Observed, Halted, Goes, Stops, step, step_start, Stamped, stamped, trace_from, final_from, Reaches, Here, Then, IsShaped}
use Rattle.lt_isa.proofs.Steps.{step_start-least, step-later}
use Rattle.lt_isa.proofs.Shapes.{step-shaped}
use Rattle.lt_isa.proofs.Runs.{trace_from-past, trace_from-goes, trace_from-stops, final_from-goes, final_from-stops}

-- the events that are stamped below a cycle
abbrev pub below : ℕ → List Stamped → List Stamped
below n events = filter (λ e. ltb e.stamp n) events

pub below-append : (n : ℕ) (es fs : List Stamped) → below n (es ++ fs) ≡ below n es ++ below n fs
below-append n es fs = filter-append (λ e. ltb e.stamp n) es fs

-- the event of a step that starts below the cycle is kept, and that of a later step isn't
pub below-stamped : (n at : ℕ) (event : Option Observed) → at < n → below n (stamped at event) ≡ stamped at event
below-stamped n at None less = refl
below-stamped n at (Some event) less = ap (λ c. cond c (stamped at (Some event)) []) (lt-ltb at n less)

pub below-stamped_past : (n at : ℕ) (event : Option Observed) → n ≤ at → below n (stamped at event) ≡ []
below-stamped_past n at None past = refl
below-stamped_past n at (Some event) past = ap (λ c. cond c (stamped at (Some event)) []) (le-ltb at n past)

-- one step is a stretch
pub reaches-step : (o : Parts) (s : State) (event : Option Observed) (t : State) → step o s ≡ Goes event t
    → Reaches o s (stamped (step_start o s) event) t
reaches-step o s event t goes =
    subst (λ es. Reaches o s es t) (append-nil (stamped (step_start o s) event)) (Then s event t [] t goes (Here t))

-- two stretches of a run in sequence are one
pub reaches-append : {o : Parts} {s : State} {es : List Stamped} {t : State} {fs : List Stamped} {u : State}
    → Reaches o s es t → Reaches o t fs u → Reaches o s (es ++ fs) u
reaches-append (Here s) second = second
reaches-append {o = o} {fs = fs} {u = u} (Then s event m es t goes rest) second =
    subst (λ gs. Reaches o s gs u) (sym (append_assoc (stamped (step_start o s) event) es fs))
    (Then s event m (es ++ fs) u goes (reaches-append rest second))

module _ (o : Parts) (fits : IsInRange o) where
  -- a stretch keeps the shape of the state
  pub reaches-shaped : (s : State) (es : List Stamped) (u : State) → Reaches o s es u → IsShaped o s → IsShaped o u
  reaches-shaped s es u (Here s') shaped = shaped
  reaches-shaped s es u (Then s' event t fs u' goes rest) shaped =
      reaches-shaped t fs u rest (step-shaped o fits s shaped event t goes)

  -- the cycle doesn't fall along a stretch
  pub reaches-cycle : (s : State) (es : List Stamped) (u : State) → Reaches o s es u → IsShaped o s → s.cycle ≤ u.cycle
  reaches-cycle s es u (Here s') shaped = omega arith
  reaches-cycle s es u (Then s' event t fs u' goes rest) shaped =
      let later = step-later o fits s shaped event t goes in
      let after = reaches-cycle t fs u rest (step-shaped o fits s shaped event t goes) in
      omega (arith, step_start-least o s)

  -- the trace from a state is what a stretch shows of it, and then the trace from the end of the stretch
  pub trace_split : (s : State) (es : List Stamped) (u : State) → Reaches o s es u → IsShaped o s → (n : ℕ)
      → trace_from o s n ≡ below n es ++ trace_from o u n
  trace_split s es u (Here s') shaped n = refl
  trace_split s es u (Then s' event t fs u' goes rest) shaped n =
      let behind = trace_split t fs u rest (step-shaped o fits s shaped event t goes) n in
      let later = step-later o fits s shaped event t goes in
      ⊎_elim
      (λ less.
      trace_from-goes o fits s event t n shaped goes less
      ∙ ap (λ l. stamped (step_start o s) event ++ l) behind
      ∙ sym (append_assoc (stamped (step_start o s) event) (below n fs) (trace_from o u n))
      ∙ ap (λ l. (l ++ below n fs) ++ trace_from o u n) (sym (below-stamped n (step_start o s) event less))
      ∙ ap (λ l. l ++ trace_from o u n) (sym (below-append n (stamped (step_start o s) event) fs)))
      (λ past.
      trace_from-past o s n past
      ∙ sym (trace_from-past o t n (omega (arith, step_start-least o t)))
      ∙ behind
      ∙ ap (λ l. (l ++ below n fs) ++ trace_from o u n) (sym (below-stamped_past n (step_start o s) event past))
      ∙ ap (λ l. l ++ trace_from o u n) (sym (below-append n (stamped (step_start o s) event) fs)))
      (cases_lt (step_start o s) n)

  -- the final state of a run past a stretch is that of the run from the stretch's end
  pub final_split : (s : State) (es : List Stamped) (u : State) → Reaches o s es u → IsShaped o s → (n : ℕ)
      → u.cycle ≤ n → final_from o s n ≡ final_from o u n
  final_split s es u (Here s') shaped n by = refl
  final_split s es u (Then s' event t fs u' goes rest) shaped n by =
      let shape = step-shaped o fits s shaped event t goes in
      let later = step-later o fits s shaped event t goes in
      let after = reaches-cycle t fs u rest shape in
      final_from-goes o fits s event t n shaped goes (omega arith) ∙ final_split t fs u rest shape n by

  -- two traces are equal if stretches show the same events and the traces from their ends are equal
  pub alike_over : (s t : State) (es fs : List Stamped) (u v : State) → Reaches o s es u → Reaches o t fs v
      → IsShaped o s → IsShaped o t → es ≡ fs → (n : ℕ) → trace_from o u n ≡ trace_from o v n
      → trace_from o s n ≡ trace_from o t n
  alike_over s t es fs u v first second shape_s shape_t same n rest =
      trace_split s es u first shape_s n
      ∙ ap (λ l. below n l ++ trace_from o u n) same
      ∙ ap (λ l. below n fs ++ l) rest
      ∙ sym (trace_split t fs v second shape_t n)

  -- the trace of a run that stops right after a stretch
  pub trace_split-stops : (s : State) (es : List Stamped) (u t : State) → Reaches o s es u → IsShaped o s
      → step o u ≡ Stops t → (n : ℕ) → trace_from o s n ≡ below n (es ++ stamped (step_start o u) (Some Halted))
  trace_split-stops s es u t reaches shaped stops n =
      trace_split s es u reaches shaped n
      ∙ ap (λ l. below n es ++ l)
      (⊎_elim
      (λ less.
      trace_from-stops o fits u t n (reaches-shaped s es u reaches shaped) stops less
      ∙ sym (below-stamped n (step_start o u) (Some Halted) less))
      (λ past. trace_from-past o u n past ∙ sym (below-stamped_past n (step_start o u) (Some Halted) past))
      (cases_lt (step_start o u) n))
      ∙ sym (below-append n es (stamped (step_start o u) (Some Halted)))

  -- the final state of a run that stops right after a stretch
  pub final_split-stops : (s : State) (es : List Stamped) (u t : State) → Reaches o s es u → IsShaped o s
      → step o u ≡ Stops t → (n : ℕ) → step_start o u < n → final_from o s n ≡ t
  final_split-stops s es u t reaches shaped stops n less =
      final_split s es u reaches shaped n (omega (arith, step_start-least o u))
      ∙ final_from-stops o fits u t n (reaches-shaped s es u reaches shaped) stops less

goes-event : (event event' : Option Observed) (t t' : State) → Goes event t ≡ Goes event' t' → event ≡ event'
goes-event event event' t t' e = cc

goes-next : (event event' : Option Observed) (t t' : State) → Goes event t ≡ Goes event' t' → t ≡ t'
goes-next event event' t t' e = cc

-- of two stretches from one state, one is a prefix of the other
pub reaches-linear : (o : Parts) (s : State) (es fs : List Stamped) (u v : State) → Reaches o s es u → Reaches o s fs v
    → ((gs : List Stamped) × (fs ≡ es ++ gs) × Reaches o u gs v)
    ⊎ ((gs : List Stamped) × (es ≡ fs ++ gs) × Reaches o v gs u)
reaches-linear o s es fs u v (Here s1) second = inl (fs, refl, second)
reaches-linear o s es fs u v (Then s1 event t es1 u1 goes rest) (Here s2) =
    inr (es, refl, Then s1 event t es1 u1 goes rest)
reaches-linear o s es fs u v (Then s1 event t es1 u1 goes rest) (Then s2 event' t' fs1 v1 goes' rest') =
    let same = sym goes ∙ goes' in
    let shown = ap (λ e. stamped (step_start o s) e) (sym (goes-event event event' t t' same)) in
    let again = subst (λ m. Reaches o m fs1 v) (sym (goes-next event event' t t' same)) rest' in
    ⊎_elim
    (λ (gs, is, further). inl (
      gs,
      ap (λ l. l ++ fs1) shown ∙ ap (λ l. stamped (step_start o s) event ++ l) is
          ∙ sym (append_assoc (stamped (step_start o s) event) es1 gs),
      further,
    ))
    (λ (gs, is, further). inr (
      gs,
      ap (λ l. stamped (step_start o s) event ++ l) is ∙ ap (λ l. l ++ (fs1 ++ gs)) (sym shown)
          ∙ sym (append_assoc (stamped (step_start o s) event') fs1 gs),
      further,
    ))
    (reaches-linear o t es1 fs1 u v rest again)
