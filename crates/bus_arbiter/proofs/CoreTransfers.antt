-- The transfers of one core: each starts in an open window, and ends before the next one starts.
use Rattle.std.proofs.Common.{◌≡◌, ℕ, zero, suc, ◌+◌, ◌<◌, ◌≤◌, Bool, true, false, cond, List, [], ◌++◌, length, Contains, Option, Some, None, ◌⊎◌, refl, sym, ap, ◌∙◌, subst, ⊎_elim, arith}
use Rattle.std.specs.Prelude.{ℤ}
use Rattle.std.proofs.lemmas.List.{append-nil}
use Rattle.std.proofs.lemmas.List.Elements.{Contains-append_cases}
use Rattle.std.proofs.lemmas.Bool.{cases_lt, eqb-true}
use Rattle.gr_word.specs.Prelude.{compared}
use Rattle.lt_isa.specs.declared.instructions.Instr.{Instr}
use Rattle.lt_isa.specs.declared.instructions.Instr.TheVariants.{Nop, Halt, Li, Alu, Ldb, Stb, Idb, Ldw, Stw, Jmp, Br}
use Rattle.lt_isa.specs.Prelude.{Parts, is_ram, is_eram, latency_of, IsInRange, InstrFits, State, Observed, RamRead, RamWrite, EncRead, EncWrite, Oram, Halted, read_event, write_event, register, slot, IsShaped, StepResult, Goes, Stops, Faults, executed, start_of, step, step_start, Stamped, seen_at, stamped, trace_from, final_from, Reaches, Here, Then, IsOpen}
use Rattle.lt_isa.proofs.Steps.{OnStepResult, on_goes, on_step, on_bound, on_choice, bound-fits, instruction-fits, step_start-at, step_start-least, step-later}
use Rattle.lt_isa.proofs.Shapes.{step-shaped}
use Rattle.lt_isa.proofs.Windows.{access_start-is}
use Rattle.lt_isa.proofs.Runs.{trace_from-past, trace_from-goes, trace_from-stops, trace_from-faults}
use Rattle.lt_isa.proofs.Ends.{IsSpent, HasHalted, run_ends}
use Rattle.bus_arbiter.specs.Prelude.{Transfer, transfer_of, transfers_of, bank_used, IsDuring, Rise}
use Rattle.bus_arbiter.proofs.TransferLists.{in-none, in-one, is-transfer, rise-append, transfers_of-append, shown-as}

-- ---- one step

bank-shown : (b : ℕ) (plain encrypted : Observed) → bank_used plain ≡ 0 → bank_used encrypted ≡ 1
    → bank_used (cond (is_ram b) plain (cond (is_eram b) encrypted (Oram b))) ≡ b
bank-shown b plain encrypted zero_is one_is = by (is_ram b) (is_eram b) refl refl
  where
    by : (ram eram : Bool) → is_ram b ≡ ram → is_eram b ≡ eram
        → bank_used (cond ram plain (cond eram encrypted (Oram b))) ≡ b
    by true eram r e = zero_is ∙ sym (eqb-true b 0 r)
    by false true r e = one_is ∙ sym (eqb-true b 1 e)
    by false false r e = refl

bank-read : (b a : ℕ) (words : List ℤ) → bank_used (read_event b a words) ≡ b
bank-read b a words = bank-shown b (RamRead a words) (EncRead a) refl refl

bank-write : (b a : ℕ) (words : List ℤ) → bank_used (write_event b a words) ≡ b
bank-write b a words = bank-shown b (RamWrite a words) (EncWrite a) refl refl

-- an event of a step that starts at a cycle
record Transferred (o : Parts) (start : ℕ) (e : Observed) (t : State) : Type 0 where
  opened : IsOpen o.profile start
  ends : t.cycle ≡ start + latency_of o (bank_used e)
  bank : bank_used e < length o.banks

abbrev MayTransfer : Parts → ℕ → Option Observed → State → Type 0
MayTransfer o start None t = Unit {0}
MayTransfer o start (Some e) t = Transferred o start e t

accessed-at : (o : Parts) → IsInRange o → (cycle b : ℕ) (e : Observed) (t : State) → b < length o.banks
    → bank_used e ≡ b → t.cycle ≡ start_of o.profile (Stb 0) cycle + latency_of o b
    → Transferred o (start_of o.profile (Stb 0) cycle) e t
accessed-at o fits cycle b e t exists is ends = record {
  opened = (access_start-is o.profile fits.profile cycle).in_window;
  ends = ends ∙ ap (λ n. start_of o.profile (Stb 0) cycle + latency_of o n) (sym is);
  bank = subst (λ n. n < length o.banks) (sym is) exists;
}

executed-transfers : (o : Parts) → IsInRange o → (s : State) → IsShaped o s → (i : Instr)
    → InstrFits (length o.banks) i
    → OnStepResult (MayTransfer o (start_of o.profile i s.cycle)) (λ t. Unit {0}) (executed o s i)
executed-transfers o fits s shaped (Ldb k b r) operands =
    accessed-at o fits s.cycle b _ _ operands.1 (bank-read b _ _) refl
executed-transfers o fits s shaped (Stb k) operands =
    on_bound _ _ (slot s k) _ (λ b a words bound.
    accessed-at o fits s.cycle b _ _ (bound-fits o s shaped k b a words bound).bank_exists (bank-write b _ _) refl)
executed-transfers o fits s shaped (Idb rd k) operands = on_bound _ _ (slot s k) _ (λ b a words bound. tt)
executed-transfers o fits s shaped (Ldw rd k ro) operands = on_bound _ _ (slot s k) _ (λ b a words bound. tt)
executed-transfers o fits s shaped (Stw rs k ro) operands = on_bound _ _ (slot s k) _ (λ b a words bound. tt)
executed-transfers o fits s shaped (Br cmp ra rb offset) operands =
    on_choice _ _ (compared cmp (register s ra) (register s rb)) _ _ tt tt
executed-transfers o fits s shaped other operands = tt

step-transfers : (o : Parts) → IsInRange o → (s : State) → IsShaped o s → (event : Option Observed) (t : State)
    → step o s ≡ Goes event t → MayTransfer o (step_start o s) event t
step-transfers o fits s shaped event t goes =
    on_goes _ _ (step o s) event t
    (on_step _ _ o s (λ i at.
    subst (λ n. OnStepResult (MayTransfer o n) (λ t. Unit {0}) (executed o s i)) (sym (step_start-at o s i at))
    (executed-transfers o fits s shaped i (instruction-fits o fits s.place i at))))
    goes

-- ---- a stretch of steps

-- a transfer of core k on the bus from a cycle on
pub record Moves (o : Parts) (k from : ℕ) (t : Transfer) : Type 0 where
  pub core : t.core ≡ k
  pub not_before : from ≤ t.stamp
  pub opened : IsOpen o.profile t.stamp
  pub bank : bank_used t.event < length o.banks

abbrev pub Ending : Parts → Transfer → ℕ
Ending o t = t.stamp + latency_of o (bank_used t.event)

-- the transfer of a step after which the run continues
step-moves : (o : Parts) → IsInRange o → (s : State) → IsShaped o s → (event : Option Observed) (next : State)
    → step o s ≡ Goes event next → (k : ℕ) (t : Transfer)
    → Contains (transfers_of k (stamped (step_start o s) event)) t
    → Moves o k (step_start o s) t × (t.stamp ≡ step_start o s) × (Ending o t ≡ next.cycle)
step-moves o fits s shaped None next goes k t c = absurd (in-none t c)
step-moves o fits s shaped (Some e) next goes k t c =
    let found = step-transfers o fits s shaped (Some e) next goes in
    let one : Contains (transfer_of k (step_start o s) e) t =
    subst (λ l. Contains l t) (append-nil (transfer_of k (step_start o s) e)) c in
    let is = (is-transfer k (step_start o s) e t one).0 in
    subst (λ (x : Transfer). Moves o k (step_start o s) x × (x.stamp ≡ step_start o s) × (Ending o x ≡ next.cycle)) is
    (record { core = refl; not_before = omega arith; opened = found.opened; bank = found.bank }, refl, sym found.ends)

step-rises : (k start : ℕ) (event : Option Observed) → Rise (transfers_of k (stamped start event))
step-rises k start None = tt
step-rises k start (Some e) = by e
  where
    by : (e : Observed) → Rise (transfer_of k start e ++ [])
    by (RamRead block words) = (λ later c. absurd (in-none later c), tt)
    by (RamWrite block words) = (λ later c. absurd (in-none later c), tt)
    by (EncRead block) = (λ later c. absurd (in-none later c), tt)
    by (EncWrite block) = (λ later c. absurd (in-none later c), tt)
    by (Oram bank) = (λ later c. absurd (in-none later c), tt)
    by Halted = tt

-- a step has one transfer at most
only : (k start : ℕ) (event : Option Observed) (x y : Transfer) → Contains (transfers_of k (stamped start event)) x
    → Contains (transfers_of k (stamped start event)) y → x ≡ y
only k start None x y cx cy = absurd (in-none x cx)
only k start (Some e) x y cx cy =
    sym (is-transfer k start e x (subst (λ l. Contains l x) (append-nil (transfer_of k start e)) cx)).0
    ∙ (is-transfer k start e y (subst (λ l. Contains l y) (append-nil (transfer_of k start e)) cy)).0

module _ (o : Parts) (fits : IsInRange o) (k : ℕ) where
  pub reaches-moves : (s : State) (es : List Stamped) (u : State) → Reaches o s es u → IsShaped o s → (t : Transfer)
      → Contains (transfers_of k es) t → Moves o k (step_start o s) t
  reaches-moves s es u (Here s') shaped t c = absurd (in-none t c)
  reaches-moves s es u (Then s' event next fs u' goes rest) shaped t c =
      let seen = stamped (step_start o s) event in
      let later = step-later o fits s shaped event next goes in
      ⊎_elim
      (λ here. (step-moves o fits s shaped event next goes k t here).0)
      (λ behind.
      let moves = reaches-moves next fs u rest (step-shaped o fits s shaped event next goes) t behind in
      record {
        core = moves.core;
        not_before = omega (arith, moves.not_before, later, step_start-least o next);
        opened = moves.opened;
        bank = moves.bank;
      })
      (Contains-append_cases (transfers_of k seen) (transfers_of k fs) t
      (subst (λ l. Contains l t) (transfers_of-append k seen fs) c))

  pub reaches-rises : (s : State) (es : List Stamped) (u : State) → Reaches o s es u → IsShaped o s
      → Rise (transfers_of k es)
  reaches-rises s es u (Here s') shaped = tt
  reaches-rises s es u (Then s' event next fs u' goes rest) shaped =
      let seen = stamped (step_start o s) event in
      let behind = step-shaped o fits s shaped event next goes in
      let later = step-later o fits s shaped event next goes in
      subst Rise (sym (transfers_of-append k seen fs))
      (rise-append (transfers_of k seen) (transfers_of k fs) (step-rises k (step_start o s) event)
      (reaches-rises next fs u rest behind)
      (λ t v ct cv.
      omega (
        arith,
        (step-moves o fits s shaped event next goes k t ct).1,
        (reaches-moves next fs u rest behind v cv).not_before,
        later,
        step_start-least o next,
      )))

  -- two transfers of a core that are on the bus in one cycle are the same
  pub reaches-apart : (s : State) (es : List Stamped) (u : State) → Reaches o s es u → IsShaped o s
      → (t v : Transfer) → Contains (transfers_of k es) t → Contains (transfers_of k es) v → (cycle : ℕ)
      → IsDuring o t cycle → IsDuring o v cycle → t ≡ v
  reaches-apart s es u (Here s') shaped t v ct cv cycle dt dv = absurd (in-none t ct)
  reaches-apart s es u (Then s' event next fs u' goes rest) shaped t v ct cv cycle dt dv =
      let seen = stamped (step_start o s) event in
      let behind = step-shaped o fits s shaped event next goes in
      ⊎_elim
      (λ ht.
      ⊎_elim
      (λ hv. only k (step_start o s) event t v ht hv)
      (λ bv. absurd (omega (
        arith,
        (step-moves o fits s shaped event next goes k t ht).2,
        (reaches-moves next fs u rest behind v bv).not_before,
        step_start-least o next,
        dt.unended,
        dv.begun,
      )))
      (parts v cv))
      (λ bt.
      ⊎_elim
      (λ hv. absurd (omega (
        arith,
        (step-moves o fits s shaped event next goes k v hv).2,
        (reaches-moves next fs u rest behind t bt).not_before,
        step_start-least o next,
        dv.unended,
        dt.begun,
      )))
      (λ bv. reaches-apart next fs u rest behind t v bt bv cycle dt dv)
      (parts v cv))
      (parts t ct)
    where
      parts : (x : Transfer) → Contains (transfers_of k (stamped (step_start o s) event ++ fs)) x
          → Contains (transfers_of k (stamped (step_start o s) event)) x ⊎ Contains (transfers_of k fs) x
      parts x c =
          Contains-append_cases (transfers_of k (stamped (step_start o s) event)) (transfers_of k fs) x
          (subst (λ l. Contains l x) (transfers_of-append k (stamped (step_start o s) event) fs) c)

-- ---- a whole run

-- the transfers of a run are those of a stretch of steps
record Stretch (o : Parts) (s : State) (n : ℕ) : Type 0 where
  events : List Stamped
  last : State
  reached : Reaches o s events last
  shows : (k : ℕ) → transfers_of k (trace_from o s n) ≡ transfers_of k events

stretch-of : (o : Parts) → IsInRange o → (s : State) → IsShaped o s → (n : ℕ) → Stretch o s n
stretch-of o fits s shaped n =
    ⊎_elim
    (λ (spent : IsSpent o s n).
    record {
      events = trace_from o s n;
      last = final_from o s n;
      reached = spent.reached;
      shows = λ k. refl;
    })
    (λ (halted : HasHalted o s n).
    record {
      events = halted.before;
      last = halted.last;
      reached = halted.reached;
      shows = λ k.
          ap (transfers_of k) halted.shown
          ∙ transfers_of-append k halted.before (stamped (step_start o halted.last) (Some Halted))
          ∙ append-nil (transfers_of k halted.before);
    })
    (run_ends o fits s n shaped)

module _ (o : Parts) (fits : IsInRange o) (s : State) (shaped : IsShaped o s) (n k : ℕ) where
  pub run-moves : (t : Transfer) → Contains (transfers_of k (trace_from o s n)) t → Moves o k (step_start o s) t
  run-moves t c =
      let all = stretch-of o fits s shaped n in
      reaches-moves o fits k s all.events all.last all.reached shaped t (subst (λ l. Contains l t) (all.shows k) c)

  pub run-rises : Rise (transfers_of k (trace_from o s n))
  run-rises =
      let all = stretch-of o fits s shaped n in
      subst Rise (sym (all.shows k)) (reaches-rises o fits k s all.events all.last all.reached shaped)

  pub run-apart : (t v : Transfer) → Contains (transfers_of k (trace_from o s n)) t
      → Contains (transfers_of k (trace_from o s n)) v → (cycle : ℕ) → IsDuring o t cycle → IsDuring o v cycle → t ≡ v
  run-apart t v ct cv =
      let all = stretch-of o fits s shaped n in
      reaches-apart o fits k s all.events all.last all.reached shaped t v
      (subst (λ l. Contains l t) (all.shows k) ct) (subst (λ l. Contains l v) (all.shows k) cv)

-- the stamps of a run up to cycle n are below n
stamps-step : (o : Parts) → IsInRange o → (s : State) (n : ℕ) → IsShaped o s → step_start o s < n
    → ((event : Option Observed) (t : State) → step o s ≡ Goes event t
    → (e : Stamped) → Contains (trace_from o t n) e → e.stamp < n)
    → (outcome : StepResult) → step o s ≡ outcome → (e : Stamped) → Contains (trace_from o s n) e → e.stamp < n
stamps-step o fits s n shaped less behind (Goes event t) is e c =
    ⊎_elim (λ here. one event here) (behind event t is e)
    (Contains-append_cases (stamped (step_start o s) event) (trace_from o t n) e
    (subst (λ l. Contains l e) (trace_from-goes o fits s event t n shaped is less) c))
  where
    one : (event : Option Observed) → Contains (stamped (step_start o s) event) e → e.stamp < n
    one None c = absurd (in-none e c)
    one (Some x) c = subst (λ (y : Stamped). y.stamp < n) (in-one (seen_at (step_start o s) x) e c) less
stamps-step o fits s n shaped less behind (Stops t) is e c =
    subst (λ (y : Stamped). y.stamp < n)
    (in-one (seen_at (step_start o s) Halted) e
    (subst (λ l. Contains l e) (trace_from-stops o fits s t n shaped is less) c))
    less
stamps-step o fits s n shaped less behind Faults is e c =
    absurd (in-none e (subst (λ l. Contains l e) (trace_from-faults o fits s n shaped is) c))

stamps-by : (o : Parts) → IsInRange o → (j : ℕ) (s : State) (n : ℕ) → IsShaped o s → n ≤ s.cycle + j
    → (e : Stamped) → Contains (trace_from o s n) e → e.stamp < n
stamps-by o fits zero s n shaped by e c =
    absurd (in-none e (subst (λ l. Contains l e)
    (trace_from-past o s n (omega (arith, by, step_start-least o s))) c))
stamps-by o fits (suc j) s n shaped by e c =
    ⊎_elim
    (λ less. stamps-step o fits s n shaped less (λ event t goes.
    let later = step-later o fits s shaped event t goes in
    stamps-by o fits j t n (step-shaped o fits s shaped event t goes)
    (omega (arith, by, later, step_start-least o s)))
    (step o s) refl e c)
    (λ past. absurd (in-none e (subst (λ l. Contains l e) (trace_from-past o s n past) c)))
    (cases_lt (step_start o s) n)

pub stamps-below : (o : Parts) → IsInRange o → (s : State) (n : ℕ) → IsShaped o s → (e : Stamped)
    → Contains (trace_from o s n) e → e.stamp < n
stamps-below o fits s n shaped = stamps-by o fits n s n shaped (omega arith)

pub moves-below : (o : Parts) → IsInRange o → (s : State) (n : ℕ) → IsShaped o s → (k : ℕ) (t : Transfer)
    → Contains (transfers_of k (trace_from o s n)) t → t.stamp < n
moves-below o fits s n shaped k t c =
    stamps-below o fits s n shaped (seen_at t.stamp t.event) (shown-as k (trace_from o s n) t c).shown
