-- Two runs of an accepted object stay alike over each instruction of public code and over each region that they cross,
-- in any number of steps.
use Rattle.std.proofs.Common.{◌≡◌, ℕ, zero, suc, ◌+◌, ◌-◌, ◌≤◌, Bool, true, false, ◌||◌, ℤ, List, [], length, get_or, Option, Some, ◌⊎◌, inl, inr, refl, sym, ap, ◌∙◌, subst, ⊎_elim, arith}
use Rattle.std.specs.Prelude.{slice_get, if◌then◌else◌}
use Rattle.std.proofs.lemmas.Option.{slice_get-get_or}
use Rattle.gr_word.specs.declared.operations.Cmp.{Cmp}
use Rattle.lt_isa.specs.declared.instructions.Instr.{Instr}
use Rattle.lt_isa.specs.declared.instructions.Instr.TheVariants.{Nop, Halt, Li, Alu, Ldb, Stb, Idb, Ldw, Stw, Jmp, Br}
use Rattle.lt_isa.specs.Prelude.{Parts, IsInRange, State, Observed, StepResult, Goes, Stops, Faults, executed, step, step_start, Stamped, stamped, trace_from, Reaches, Here, Then, NeverFaults, IsShaped, target_of}
use Rattle.lt_isa.proofs.Steps.{step-at, step_start-same, step_start-least, step-later, instruction-fits}
use Rattle.lt_isa.proofs.Shapes.{step-shaped}
use Rattle.lt_isa.proofs.Stretches.{reaches-step, reaches-cycle, reaches-shaped, reaches-linear}
use Rattle.lt_isa.proofs.Lockstep.{Meets, StopsAlike, lockstep_over}
use Rattle.trace_patterns.specs.Prelude.{Shown, TreeEvent, Known, is_secret, SymState, at_entry, known_after, Ruling, Falls, Opens, jumped, ruling_of, ruling_if, ruling_at, CrossesFrom, VisitedAt, JoinsAt, Accepts}
use Rattle.trace_patterns.proofs.Walks.{crosses-region}
use Rattle.lt_checker.proofs.Made.{Reached}
use Rattle.lt_checker.proofs.Stands.{Stand, stand_behind}
use Rattle.lt_checker.proofs.Keeps.{OpensNone, StepsAlike, instr_alike}
use Rattle.lt_checker.proofs.CrossedRegions.{crossed_alike}

-- the ruling on the instruction at a place
ruled_at : (o : Parts) (p : ℕ) (i : Instr) (k : Known) → slice_get o.code p ≡ Some i
    → ruling_at o p k ≡ ruling_of o p k i
unfolding ruling_at
ruled_at o p i k at = ap (ruling_if o p k) at

-- a branch on a secret
record IsSecretBranch (k : Known) (i : Instr) : Type 0 where
  cmp : Cmp
  ra : ℕ
  rb : ℕ
  offset : ℤ
  is : i ≡ Br cmp ra rb offset
  secret : (is_secret k ra || is_secret k rb) ≡ true

branch_by : (k : Known) (cmp : Cmp) (ra rb : ℕ) (offset : ℤ) (secret : Bool)
    → (is_secret k ra || is_secret k rb) ≡ secret → OpensNone k (Br cmp ra rb offset)
    ⊎ IsSecretBranch k (Br cmp ra rb offset)
branch_by k cmp ra rb offset true e =
    inr (record { cmp = cmp; ra = ra; rb = rb; offset = offset; is = refl; secret = e })
branch_by k cmp ra rb offset false e = inl e

opens_or_none : (k : Known) (i : Instr) → OpensNone k i ⊎ IsSecretBranch k i
opens_or_none k (Br cmp ra rb offset) = branch_by k cmp ra rb offset (is_secret k ra || is_secret k rb) refl
opens_or_none k other = inl tt

-- the ruling on a branch on a secret opens its region
opens_region : (o : Parts) (p : ℕ) (offset : ℤ) (k : Known) (cmp : Cmp) (ra rb : ℕ)
    → (is_secret k ra || is_secret k rb) ≡ true → ruling_of o p k (Br cmp ra rb offset) ≡ Opens offset
unfolding ruling_of
opens_region o p offset k cmp ra rb secret =
    ap (λ (c : Bool). let r : Ruling = if c then Opens offset else jumped o (target_of o p offset) k
    (Falls k) in r) secret

join_reached : (o : Parts) (p : ℕ) (offset : ℤ) (k : Known) (pattern : Shown TreeEvent) (join : ℕ) (state : SymState)
    → VisitedAt o p k → ruling_at o p k ≡ Opens offset → CrossesFrom o p offset k pattern join state
    → Reached o join (known_after state)
join_reached o p offset k pattern join state visited opens crosses = record {
  inside = (crosses-region o 0 (length o.code - 1) p offset (at_entry k) pattern join state crosses).1.in_code;
  comes = JoinsAt p k offset pattern join state visited opens crosses;
}

module _ (o : Parts) (range : IsInRange o) (accepts : Accepts o) where
  -- two steps that are alike lead to states that are alike, or both stop
  steps_meet : (s t : State) (x y : StepResult) → s.place ≡ t.place → s.cycle ≡ t.cycle → IsShaped o s → IsShaped o t
      → step o s ≡ x → step o t ≡ y → StepsAlike o x y → Meets o (Stand o) s t ⊎ StopsAlike o s t
  steps_meet s t (Goes e u) (Goes f v) place cycle shape_s shape_t is_s is_t alike =
      let start = step_start-same o s t place cycle in
      let same : stamped (step_start o t) f ≡ stamped (step_start o s) e = ap (λ (n : ℕ). stamped n f) (sym start)
      ∙ ap (stamped (step_start o s)) (sym alike.0) in
      let later_s = step-later o range s shape_s e u is_s in
      let later_t = step-later o range t shape_t f v is_t in
      inl (record {
        events = stamped (step_start o s) e;
        first = u;
        second = v;
        first_reached = reaches-step o s e u is_s;
        second_reached = subst (λ (es : List Stamped). Reaches o t es v) same (reaches-step o t f v is_t);
        first_later = omega (arith, step_start-least o s);
        second_later = omega (arith, step_start-least o t);
        related = alike.1;
      })
  steps_meet s t (Goes e u) (Stops v) place cycle shape_s shape_t is_s is_t alike = absurd alike
  steps_meet s t (Goes e u) Faults place cycle shape_s shape_t is_s is_t alike = absurd alike
  steps_meet s t (Stops u) (Goes f v) place cycle shape_s shape_t is_s is_t alike = absurd alike
  steps_meet s t (Stops u) (Stops v) place cycle shape_s shape_t is_s is_t alike =
      inr (record {
        events = [];
        first = s;
        second = t;
        first_last = u;
        second_last = v;
        first_reached = Here s;
        second_reached = Here t;
        first_stops = is_s;
        second_stops = is_t;
        same_start = step_start-same o s t place cycle;
      })
  steps_meet s t (Stops u) Faults place cycle shape_s shape_t is_s is_t alike = absurd alike
  steps_meet s t Faults y place cycle shape_s shape_t is_s is_t alike = absurd alike

  -- a region that both runs cross
  region_met : (s t : State) (h : Stand o s t) (i : Instr) → slice_get o.code s.place ≡ Some i
      → IsSecretBranch h.known i → IsShaped o s → IsShaped o t → Meets o (Stand o) s t
  region_met s t h i at branch shape_s shape_t =
      let here = at ∙ ap Some branch.is in
      let opens = ruled_at o s.place (Br branch.cmp branch.ra branch.rb branch.offset) h.known here
      ∙ opens_region o s.place branch.offset h.known branch.cmp branch.ra branch.rb branch.secret in
      let by = accepts.crossed s.place h.known branch.offset h.visited opens in
      let meets = crossed_alike o range h.known branch.cmp branch.ra branch.rb branch.offset s t here shape_s shape_t
      h.related by.0 by.1 by.2 by.3 in
      let reached = join_reached o s.place branch.offset h.known by.0 by.1 by.2 h.visited opens by.3 in
      record {
        events = meets.events;
        first = meets.first;
        second = meets.second;
        first_reached = meets.first_reached;
        second_reached = meets.second_reached;
        first_later = meets.first_later;
        second_later = meets.second_later;
        related = stand_behind o (known_after by.2) meets.first meets.second accepts
            (subst (λ (p : ℕ). Reached o p (known_after by.2)) (sym meets.related.place) reached) meets.related.related;
      }

  pub keeps : (s t : State) → Stand o s t → IsShaped o s → IsShaped o t → Meets o (Stand o) s t ⊎ StopsAlike o s t
  keeps s t h shape_s shape_t =
      let i = get_or o.code s.place Nop in
      let at = slice_get-get_or o.code s.place Nop h.inside in
      let at' : slice_get o.code t.place ≡ Some i = ap (slice_get o.code) (sym h.related.place) ∙ at in
      let fits = instruction-fits o range s.place i at in
      ⊎_elim
      (λ (none : OpensNone h.known i).
      steps_meet s t (executed o s i) (executed o t i) h.related.place h.related.cycle shape_s shape_t
      (step-at o s i at) (step-at o t i at')
      (instr_alike o accepts h.known s t h.visited h.related (length o.banks) i fits none
      (ruled_at o s.place i h.known at)))
      (λ (branch : IsSecretBranch h.known i). inl (region_met s t h i at branch shape_s shape_t))
      (opens_or_none h.known i)

  -- the traces are equal, at every number of cycles
  pub traces_alike : (s t : State) → Stand o s t → IsShaped o s → IsShaped o t → (n : ℕ)
      → trace_from o s n ≡ trace_from o t n
  traces_alike s t h shape_s shape_t n = lockstep_over o range (Stand o) keeps s t h shape_s shape_t n

  -- no steps follow a fault or a stop
  stuck : (s u : State) (es : List Stamped) → Reaches o s es u
      → ((event : Option Observed) (t : State) → step o s ≡ Goes event t → ⊥) → s ≡ u
  stuck s u es (Here s') ends = refl
  stuck s u es (Then s' e t more u' goes rest) ends = absurd (ends e t goes)

  -- two states at one cycle, one of which leads to the other, are one state
  one_state : (u v : State) (es : List Stamped) → IsShaped o u → u.cycle ≡ v.cycle → Reaches o u es v → u ≡ v
  one_state u v es shaped same (Here u') = refl
  one_state u v es shaped same (Then u' e t more v' goes rest) =
      let later = step-later o range u shaped e t goes in
      let after = reaches-cycle o range t more v rest (step-shaped o range u shaped e t goes) in
      absurd (omega (arith, step_start-least o u))

  met_once : (s : State) → IsShaped o s → (m : Meets o (Stand o) s s) → Stand o m.first m.first
  met_once s shaped m =
      let same : m.first.cycle ≡ m.second.cycle = m.related.related.cycle in
      let one : m.first ≡ m.second =
      ⊎_elim
      (λ (gs, is, further). one_state m.first m.second gs
      (reaches-shaped o range s m.events m.first m.first_reached shaped) same further)
      (λ (gs, is, further). sym
      (one_state m.second m.first gs (reaches-shaped o range s m.events m.second m.second_reached shaped)
      (sym same) further))
      (reaches-linear o s m.events m.events m.first m.second m.first_reached m.second_reached) in
      subst (λ (v : State). Stand o m.first v) (sym one) m.related

  goes_on : (u t : State) (es : List Stamped) → step o u ≡ Faults → Reaches o u es t → u ≡ t
  goes_on u t es faults reaches =
      stuck u t es reaches (λ event v goes. absurd
      (let f : ◌≡◌ {A = StepResult} (Goes event v) Faults = sym goes ∙ faults in cc))

  -- a run that leads to a fault leads there from each state of the run on the way
  on_way : (s u v : State) (es fs : List Stamped) → Reaches o s es u → step o u ≡ Faults → Reaches o s fs v
      → (gs : List Stamped) × Reaches o v gs u
  on_way s u v es fs reaches faults met =
      ⊎_elim
      (λ (gs, is, further). (
        [],
        subst (λ (w : State). Reaches o v [] w) (sym (goes_on u v gs faults further))
            (Here v),
      ))
      (λ (gs, is, further). (gs, further))
      (reaches-linear o s es fs u v reaches met)

  stopped : (s u : State) (es : List Stamped) → Reaches o s es u → step o u ≡ Faults → StopsAlike o s s → ⊥
  stopped s u es reaches faults ends =
      let on = on_way s u ends.first es ends.events reaches faults ends.first_reached in
      let same : ends.first ≡ u = stuck ends.first u on.0 on.1
      (λ event v goes. absurd (let f : ◌≡◌ {A = StepResult} (Goes event v) (Stops ends.first_last) = sym goes
      ∙ ends.first_stops in cc)) in
      absurd (let f : ◌≡◌ {A = StepResult} Faults (Stops ends.first_last) = sym faults ∙ ap (step o) (sym same)
      ∙ ends.first_stops in cc)

  -- a run never meets a fault
  no_fault : (k : ℕ) (s u : State) (es : List Stamped) → Stand o s s → IsShaped o s → Reaches o s es u
      → u.cycle ≤ s.cycle + k → step o u ≡ Faults → ⊥
  no_fault zero s u es h shaped reaches by faults =
      ⊎_elim
      (λ (m : Meets o (Stand o) s s).
      let on = on_way s u m.first es m.events reaches faults m.first_reached in
      let after = reaches-cycle o range m.first on.0 u on.1
      (reaches-shaped o range s m.events m.first m.first_reached shaped) in
      absurd (omega (arith, m.first_later)))
      (stopped s u es reaches faults)
      (keeps s s h shaped shaped)
  no_fault (suc k) s u es h shaped reaches by faults =
      ⊎_elim
      (λ (m : Meets o (Stand o) s s).
      let on = on_way s u m.first es m.events reaches faults m.first_reached in
      no_fault k m.first u on.0 (met_once s shaped m)
      (reaches-shaped o range s m.events m.first m.first_reached shaped) on.1 (omega (arith, m.first_later)) faults)
      (stopped s u es reaches faults)
      (keeps s s h shaped shaped)

  -- a run from a visited place never meets a fault
  pub never_faults : (s : State) → Stand o s s → IsShaped o s → NeverFaults o s
  never_faults s h shaped es u reaches = no_fault u.cycle s u es h shaped reaches (omega arith)
