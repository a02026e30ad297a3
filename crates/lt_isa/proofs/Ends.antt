-- How a run up to a cycle ends: at a halt, or in a state from which it can be resumed.
use Rattle.std.proofs.Common.{ℤ, true, false, cond, ◌≡◌, ℕ, zero, suc, get_or, ◌+◌, ◌<◌, ◌≤◌, List, [], ◌∷◌, ◌++◌, Option, Some, None, ◌⊎◌, inl, inr, refl, sym, ap, ◌∙◌, subst, ⊎_elim, arith, append_assoc}
use Rattle.std.proofs.lemmas.Bool.{cases_lt}
use Rattle.std.proofs.lemmas.List.{append-nil}
use Rattle.lt_isa.specs.Prelude.{Parts, IsInRange, is_ram, is_eram, State, Observed, Halted, RamRead, RamWrite, EncRead, EncWrite, Oram, register, slot, read_event, write_event, StepResult, Goes, Stops, Faults, executed, step, step_start, Stamped, seen_at, stamped, trace_from, final_from, Reaches, Here, Then, HaltsAt, IsShaped}
use Rattle.lt_isa.specs.declared.instructions.Instr.{Instr}
use Rattle.lt_isa.specs.declared.instructions.Instr.TheVariants.{Nop, Halt, Li, Alu, Ldb, Stb, Idb, Ldw, Stw, Jmp, Br}
use Rattle.gr_word.specs.Prelude.{compared}
use Rattle.lt_isa.proofs.Steps.{OnStepResult, on_goes, on_step, on_bound, on_choice, step_start-least, step-later}
use Rattle.lt_isa.proofs.Shapes.{step-shaped, stop-shaped}
use Rattle.std.proofs.lemmas.List.Elements.{Contains-append_cases, Contains-append_right}
use Rattle.lt_isa.proofs.Stretches.{reaches-shaped}
use Rattle.lt_isa.proofs.Runs.{trace_from-past, trace_from-goes, trace_from-stops, trace_from-faults, final_from-past, final_from-goes, final_from-stops, final_from-faults}

-- the run up to cycle n reaches its final state, where the next step starts at n or later, or is a fault
pub record IsSpent (o : Parts) (s : State) (n : ℕ) : Type 0 where
  pub reached : Reaches o s (trace_from o s n) (final_from o s n)
  pub ended : (n ≤ step_start o (final_from o s n)) ⊎ (step o (final_from o s n) ≡ Faults)
  -- if it is resumed up to a later cycle, it shows and leaves what a single run up to that cycle does
  pub resumes : (m : ℕ) → n ≤ m → (trace_from o s m ≡ trace_from o s n ++ trace_from o (final_from o s n) m)
      × (final_from o s m ≡ final_from o (final_from o s n) m)

-- the run up to cycle n halts, and its last event is the halt
pub record HasHalted (o : Parts) (s : State) (n : ℕ) : Type 0 where
  pub before : List Stamped
  pub last : State
  pub reached : Reaches o s before last
  pub stopped : step o last ≡ Stops (final_from o s n)
  pub in_time : step_start o last < n
  pub shown : trace_from o s n ≡ before ++ stamped (step_start o last) (Some Halted)
  -- up to a later cycle it shows and leaves the same
  pub stays : (m : ℕ) → n ≤ m → (trace_from o s m ≡ trace_from o s n) × (final_from o s m ≡ final_from o s n)

module _ (o : Parts) (fits : IsInRange o) where
  spent-here : (s : State) (n : ℕ) → trace_from o s n ≡ [] → final_from o s n ≡ s
      → (n ≤ step_start o s) ⊎ (step o s ≡ Faults) → IsSpent o s n
  spent-here s n shown left ended = record {
    reached = subst (λ es. Reaches o s es (final_from o s n)) (sym shown) (subst (Reaches o s []) (sym left) (Here s));
    ended = subst (λ u. (n ≤ step_start o u) ⊎ (step o u ≡ Faults)) (sym left) ended;
    resumes = λ m le. (
      ap (λ u. trace_from o u m) (sym left) ∙ ap (λ l. l ++ trace_from o (final_from o s n) m) (sym shown),
      ap (λ u. final_from o u m) (sym left),
    );
  }

  spent-then : (s : State) (event : Option Observed) (t : State) (n : ℕ) → IsShaped o s → step o s ≡ Goes event t
      → step_start o s < n → IsSpent o t n → IsSpent o s n
  spent-then s event t n shaped goes less spent =
      let shown = trace_from-goes o fits s event t n shaped goes less in
      let left = final_from-goes o fits s event t n shaped goes less in
      record {
        reached =
            subst (λ es. Reaches o s es (final_from o s n)) (sym shown)
            (subst (Reaches o s (stamped (step_start o s) event ++ trace_from o t n)) (sym left)
            (Then s event t (trace_from o t n) (final_from o t n) goes spent.reached));
        ended = subst (λ u. (n ≤ step_start o u) ⊎ (step o u ≡ Faults)) (sym left) spent.ended;
        resumes = λ m le. (
          trace_from-goes o fits s event t m shaped goes (omega arith)
              ∙ ap (λ l. stamped (step_start o s) event ++ l) (spent.resumes m le).0
              ∙ sym (append_assoc (stamped (step_start o s) event) (trace_from o t n)
              (trace_from o (final_from o t n) m))
              ∙ ap (λ u. (stamped (step_start o s) event ++ trace_from o t n) ++ trace_from o u m) (sym left)
              ∙ ap (λ l. l ++ trace_from o (final_from o s n) m) (sym shown),
          final_from-goes o fits s event t m shaped goes (omega arith) ∙ (spent.resumes m le).1
              ∙ ap (λ u. final_from o u m) (sym left),
        );
      }

  halted-then : (s : State) (event : Option Observed) (t : State) (n : ℕ) → IsShaped o s → step o s ≡ Goes event t
      → step_start o s < n → HasHalted o t n → HasHalted o s n
  halted-then s event t n shaped goes less halted =
      let shown = trace_from-goes o fits s event t n shaped goes less in
      let left = final_from-goes o fits s event t n shaped goes less in
      record {
        before = stamped (step_start o s) event ++ halted.before;
        last = halted.last;
        reached = Then s event t halted.before halted.last goes halted.reached;
        stopped = halted.stopped ∙ ap Stops (sym left);
        in_time = halted.in_time;
        shown =
            shown ∙ ap (λ l. stamped (step_start o s) event ++ l) halted.shown
            ∙ sym (append_assoc (stamped (step_start o s) event) halted.before
            (stamped (step_start o halted.last) (Some Halted)));
        stays = λ m le. (
          trace_from-goes o fits s event t m shaped goes (omega arith)
              ∙ ap (λ l. stamped (step_start o s) event ++ l) (halted.stays m le).0 ∙ sym shown,
          final_from-goes o fits s event t m shaped goes (omega arith) ∙ (halted.stays m le).1 ∙ sym left,
        );
      }

  halted-here : (s t : State) (n : ℕ) → IsShaped o s → step o s ≡ Stops t → step_start o s < n → HasHalted o s n
  halted-here s t n shaped stops less = record {
    before = [];
    last = s;
    reached = Here s;
    stopped = stops ∙ ap Stops (sym (final_from-stops o fits s t n shaped stops less));
    in_time = less;
    shown = trace_from-stops o fits s t n shaped stops less;
    stays = λ m le. (
      trace_from-stops o fits s t m shaped stops (omega arith) ∙ sym (trace_from-stops o fits s t n shaped stops less),
      final_from-stops o fits s t m shaped stops (omega arith) ∙ sym (final_from-stops o fits s t n shaped stops less),
    );
  }

  ends-step : (s : State) (n : ℕ) → IsShaped o s → step_start o s < n → (outcome : StepResult) → step o s ≡ outcome
      → ((event : Option Observed) (t : State) → step o s ≡ Goes event t → IsSpent o t n ⊎ HasHalted o t n)
      → IsSpent o s n ⊎ HasHalted o s n
  ends-step s n shaped less (Goes event t) is behind =
      ⊎_elim (λ spent. inl (spent-then s event t n shaped is less spent))
      (λ halted. inr (halted-then s event t n shaped is less halted)) (behind event t is)
  ends-step s n shaped less (Stops t) is behind = inr (halted-here s t n shaped is less)
  ends-step s n shaped less Faults is behind =
      inl (spent-here s n (trace_from-faults o fits s n shaped is) (final_from-faults o fits s n shaped is) (inr is))

  ends-by : (k : ℕ) (s : State) (n : ℕ) → IsShaped o s → n ≤ s.cycle + k → IsSpent o s n ⊎ HasHalted o s n
  ends-by zero s n shaped by =
      let past : n ≤ step_start o s = omega (arith, step_start-least o s) in
      inl (spent-here s n (trace_from-past o s n past) (final_from-past o s n past) (inl past))
  ends-by (suc k) s n shaped by =
      ⊎_elim
      (λ less. ends-step s n shaped less (step o s) refl (λ event t goes.
      let later = step-later o fits s shaped event t goes in
      ends-by k t n (step-shaped o fits s shaped event t goes) (omega (arith, step_start-least o s))))
      (λ past. inl (spent-here s n (trace_from-past o s n past) (final_from-past o s n past) (inl past)))
      (cases_lt (step_start o s) n)

  pub run_ends : (s : State) (n : ℕ) → IsShaped o s → IsSpent o s n ⊎ HasHalted o s n
  run_ends s n shaped = ends-by n s n shaped (omega arith)

-- the event of a read isn't the halt
read_event-no_halt : (b a : ℕ) (words : List ℤ) → read_event b a words ≡ Halted → ⊥
read_event-no_halt b a words =
    elim (is_ram b) as (λ c. cond c (RamRead a words) (cond (is_eram b) (EncRead a) (Oram b)) ≡ Halted → ⊥) [
      | true ↦ (λ e. cc)
      | false ↦
          elim (is_eram b) as (λ c. cond c (EncRead a) (Oram b) ≡ Halted → ⊥) [ true ↦ (λ e. cc) | false ↦ (λ e. cc) ]
    ]

write_event-no_halt : (b a : ℕ) (words : List ℤ) → write_event b a words ≡ Halted → ⊥
write_event-no_halt b a words =
    elim (is_ram b) as (λ c. cond c (RamWrite a words) (cond (is_eram b) (EncWrite a) (Oram b)) ≡ Halted → ⊥) [
      | true ↦ (λ e. cc)
      | false ↦
          elim (is_eram b) as (λ c. cond c (EncWrite a) (Oram b) ≡ Halted → ⊥) [ true ↦ (λ e. cc) | false ↦ (λ e. cc) ]
    ]

abbrev ShowsNoHalt : Option Observed → Type 0
ShowsNoHalt None = Unit {0}
ShowsNoHalt (Some event) = event ≡ Halted → ⊥

executed-no_halt : (o : Parts) (s : State) (i : Instr)
    → OnStepResult (λ event t. ShowsNoHalt event) (λ t. Unit {0}) (executed o s i)
executed-no_halt o s (Ldb k b r) = read_event-no_halt b _ _
executed-no_halt o s (Stb k) = on_bound _ _ (slot s k) _ (λ b a words bound. write_event-no_halt b a words)
executed-no_halt o s (Idb rd k) = on_bound _ _ (slot s k) _ (λ b a words bound. tt)
executed-no_halt o s (Ldw rd k ro) = on_bound _ _ (slot s k) _ (λ b a words bound. tt)
executed-no_halt o s (Stw rs k ro) = on_bound _ _ (slot s k) _ (λ b a words bound. tt)
executed-no_halt o s (Br cmp ra rb offset) = on_choice _ _ (compared cmp (register s ra) (register s rb)) _ _ tt tt
executed-no_halt o s other = tt

stamped-no_halt : (start at : ℕ) (event : Option Observed) → ShowsNoHalt event → HaltsAt (stamped start event) at → ⊥
stamped-no_halt start at None quiet halts = omega (arith, halts.1)
stamped-no_halt start at (Some event) quiet halts = quiet (first halts.0 halts.1 halts.2)
  where
    first : (k : ℕ) → k < 1 → get_or (seen_at start event ∷ []) k (seen_at at Halted) ≡ seen_at at Halted
        → event ≡ Halted
    first zero within is = ap (λ e. e.event) is
    first (suc k) within is = absurd (omega arith)

-- a step that leads to a state shows no halt
pub step-no_halt : (o : Parts) (s : State) (event : Option Observed) (t : State) (start at : ℕ)
    → step o s ≡ Goes event t → HaltsAt (stamped start event) at → ⊥
step-no_halt o s event t start at goes =
    stamped-no_halt start at event
    (on_goes _ _ (step o s) event t (on_step _ _ o s (λ i place. executed-no_halt o s i)) goes)

-- a stretch shows no halt
pub reaches-no_halt : (o : Parts) (s : State) (es : List Stamped) (u : State) → Reaches o s es u → (at : ℕ)
    → HaltsAt es at → ⊥
reaches-no_halt o s es u (Here s') at halts = omega (arith, halts.1)
reaches-no_halt o s es u (Then s' event t fs u' goes rest) at halts =
    ⊎_elim
    (step-no_halt o s event t (step_start o s) at goes)
    (reaches-no_halt o t fs u rest at)
    (Contains-append_cases (stamped (step_start o s) event) fs (seen_at at Halted) halts)

-- the stamp of a halt is the start of its step
pub stamped-halt : (start at : ℕ) → HaltsAt (stamped start (Some Halted)) at → at ≡ start
stamped-halt start at halts = first halts.0 halts.1 halts.2
  where
    first : (k : ℕ) → k < 1 → get_or (seen_at start Halted ∷ []) k (seen_at at Halted) ≡ seen_at at Halted → at ≡ start
    first zero within is = sym (ap (λ e. e.stamp) is)
    first (suc k) within is = absurd (omega arith)

-- a run that is spent shows no halt
pub spent-no_halt : (o : Parts) (s : State) (n : ℕ) → IsSpent o s n → (at : ℕ) → HaltsAt (trace_from o s n) at → ⊥
spent-no_halt o s n spent = reaches-no_halt o s (trace_from o s n) (final_from o s n) spent.reached

-- a run that has halted shows a halt, stamped with the start of its last step
pub halted-at : (o : Parts) (s : State) (n : ℕ) (halted : HasHalted o s n)
    → HaltsAt (trace_from o s n) (step_start o halted.last)
halted-at o s n halted =
    subst (λ es. HaltsAt es (step_start o halted.last)) (sym halted.shown)
    (Contains-append_right halted.before (stamped (step_start o halted.last) (Some Halted)) _ (0, omega arith, refl))

module _ (o : Parts) (fits : IsInRange o) (s : State) (shaped : IsShaped o s) where
  -- a run that shows no halt is spent
  pub spent-from_no_halt : (n : ℕ) → ((at : ℕ) → HaltsAt (trace_from o s n) at → ⊥) → IsSpent o s n
  spent-from_no_halt n none =
      ⊎_elim (λ spent. spent) (λ halted. absurd (none (step_start o halted.last) (halted-at o s n halted)))
      (run_ends o fits s n shaped)

  -- a run whose trace has a halt has halted
  pub halted-from_halt : (n at : ℕ) → HaltsAt (trace_from o s n) at → HasHalted o s n
  halted-from_halt n at halts =
      ⊎_elim (λ spent. absurd (spent-no_halt o s n spent at halts)) (λ halted. halted) (run_ends o fits s n shaped)

  -- a run to n, resumed up to m, shows what a single run to m shows
  pub trace_resumed : (n m : ℕ) → n ≤ m → ((at : ℕ) → HaltsAt (trace_from o s n) at → ⊥)
      → trace_from o s m ≡ trace_from o s n ++ trace_from o (final_from o s n) m
  trace_resumed n m le none = ((spent-from_no_halt n none).resumes m le).0

  -- a run to n, resumed up to m, leaves what a single run to m leaves
  pub final_resumed : (n m : ℕ) → n ≤ m → ((at : ℕ) → HaltsAt (trace_from o s n) at → ⊥)
      → final_from o s m ≡ final_from o (final_from o s n) m
  final_resumed n m le none = ((spent-from_no_halt n none).resumes m le).1

  -- once a run has halted, it shows the same events up to a later cycle
  pub trace_halted : (n m at : ℕ) → n ≤ m → HaltsAt (trace_from o s n) at → trace_from o s m ≡ trace_from o s n
  trace_halted n m at le halts = ((halted-from_halt n at halts).stays m le).0

  -- once a run has halted, it leaves the same at a later cycle
  pub final_halted : (n m at : ℕ) → n ≤ m → HaltsAt (trace_from o s n) at → final_from o s m ≡ final_from o s n
  final_halted n m at le halts = ((halted-from_halt n at halts).stays m le).1

  -- what is shown below a cycle is a prefix of what is shown below a later one
  pub trace_front : (n m : ℕ) → n ≤ m → (rest : List Stamped) × (trace_from o s m ≡ trace_from o s n ++ rest)
  trace_front n m le =
      ⊎_elim
      (λ spent. (trace_from o (final_from o s n) m, (spent.resumes m le).0))
      (λ halted. ([], (halted.stays m le).0 ∙ sym (append-nil (trace_from o s n))))
      (run_ends o fits s n shaped)

  -- the final state has the object's shape
  pub final_shaped : (n : ℕ) → IsShaped o (final_from o s n)
  final_shaped n =
      ⊎_elim
      (λ spent. reaches-shaped o fits s (trace_from o s n) (final_from o s n) spent.reached shaped)
      (λ halted. stop-shaped o fits halted.last
      (reaches-shaped o fits s halted.before halted.last halted.reached shaped) (final_from o s n) halted.stopped)
      (run_ends o fits s n shaped)
