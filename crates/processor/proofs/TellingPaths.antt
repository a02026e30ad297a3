-- What is reported of a step, and what is left to report after it.
use Rattle.std.proofs.Common.{◌≡◌, ◌≢◌, ℕ, zero, suc, ◌≤◌, ◌<◌, cond, List, [], ◌∷◌, ◌++◌, drop, length, get_or, Option, Some, None, refl, sym, ap, ◌∙◌, ⊎_elim, arith}
use Rattle.std.proofs.lemmas.Bool.{cases_eq, eq-eqb, ne_eqb, false≢true}
use Rattle.std.specs.Prelude.{◌==◌, IsSome}
use Rattle.lt_isa.specs.Prelude.{Parts, IsInRange, State, Observed, IsShaped, StepResult, Goes, Stops, Faults, step, step_start, Stamped, seen_at, stamped, trace_from}
use Rattle.lt_isa.proofs.Runs.{trace_from-goes, trace_from-stops, trace_from-faults}
use Rattle.banks.specs.declared.bank.Leaves.{Leaves}
use Rattle.banks.specs.Prelude.{no_leaves, Access, accessed, accesses_from, in_bank, at_most_one, oblivious}
use Rattle.banks.proofs.InBank.{in_bank-other, in_bank-this}
use Rattle.banks.proofs.ShownAccesses.{event_of_outcome, if_oblivious, made_bank, step-bank, told_bank}
use Rattle.banks.proofs.AccessRuns.{accesses_from-step}
use Rattle.processor.specs.Prelude.{Accessed, MayAccess, OfBoth, oram_of, paths_shown, shown_of, may_show, told_of_step, WatcherTold, AnEvent, APath, events_in, left_paths, next_of, path_behind, run_shown, with_path, with_paths, events_in-append}

-- if each bank shows the same paths, the same paths are reported
pub with_paths-same : (events : List Stamped) (p q : ℕ → List Leaves)
    → ((b : ℕ) → p b ≡ q b) → with_paths events p ≡ with_paths events q
with_paths-same [] p q same = refl
with_paths-same (event ∷ events) p q same =
    ap (λ leaves. with_path event leaves ++ with_paths events (left_paths (oblivious event.event) p))
    (next_same (oblivious event.event))
    ∙ ap (λ rest. with_path event (next_of (oblivious event.event) q) ++ rest)
    (with_paths-same events (left_paths (oblivious event.event) p) (left_paths (oblivious event.event) q)
    (left_same (oblivious event.event)))
  where
    next_same : (bank : Option ℕ) → next_of bank p ≡ next_of bank q
    next_same None = refl
    next_same (Some bank) = ap (λ paths. get_or paths 0 no_leaves) (same bank)

    left_same : (bank : Option ℕ) (b : ℕ) → left_paths bank p b ≡ left_paths bank q b
    left_same None b = same b
    left_same (Some bank) b =
        ap (λ paths. cond (b == bank) (drop 1 paths) paths) (same b)

path_behind-no_event : (stamp : ℕ) (bank : Option ℕ) (leaves : Leaves) → events_in (path_behind stamp bank leaves) ≡ []
path_behind-no_event stamp None leaves = refl
path_behind-no_event stamp (Some bank) leaves = refl

-- paths between events change no event
pub events_in-with_paths : (events : List Stamped) (paths : ℕ → List Leaves)
    → events_in (with_paths events paths) ≡ events
events_in-with_paths [] paths = refl
events_in-with_paths (event ∷ events) paths =
    let bank = oblivious event.event in
    let behind = path_behind event.stamp bank (next_of bank paths) in
    ap (λ l. event ∷ l)
    (events_in-append behind (with_paths events (left_paths bank paths))
    ∙ ap (λ l. l ++ events_in (with_paths events (left_paths bank paths)))
    (path_behind-no_event event.stamp bank (next_of bank paths))
    ∙ events_in-with_paths events (left_paths bank paths))

-- after the first report of a step, none is an event
behind_first : List WatcherTold → List WatcherTold
behind_first [] = []
behind_first (first ∷ told) = told

step-one_event : (start : ℕ) (outcome : StepResult) (leaves : Leaves)
    → events_in (behind_first (told_of_step start outcome leaves)) ≡ []
unfolding behind_first
step-one_event start (Goes None t) leaves = refl
step-one_event start (Goes (Some event) t) leaves = path_behind-no_event start (oblivious event) leaves
step-one_event start (Stops t) leaves = refl
step-one_event start Faults leaves = refl

no_event-behind : (told rest : List WatcherTold) → events_in (told ++ rest) ≡ [] → events_in rest ≡ []
no_event-behind [] rest none = none
no_event-behind (AnEvent event ∷ told) rest none = absurd (omega (arith, ap length none))
no_event-behind (APath stamp bank leaves ∷ told) rest none = no_event-behind told rest none

-- no event of a step is reported after something else of it
pub step-last_event : (start : ℕ) (outcome : StepResult) (leaves : Leaves) (told : List WatcherTold)
    (next : WatcherTold) (rest : List WatcherTold) → told_of_step start outcome leaves ≡ told ++ next ∷ rest
    → events_in rest ≡ []
unfolding behind_first
step-last_event start outcome leaves [] next rest is =
    sym (ap (λ l. events_in (behind_first l)) is) ∙ step-one_event start outcome leaves
step-last_event start outcome leaves (first ∷ told) next rest is =
    no_event-behind (next ∷ []) rest
    (no_event-behind told (next ∷ rest)
    (sym (ap (λ l. events_in (behind_first l)) is) ∙ step-one_event start outcome leaves))

module _ {B : Type 0} (shows : B → List ℕ → List Leaves) (comes : B → List ℕ → B → Type 0) where
  -- a bank that wasn't accessed shows what it showed
  paths-other : (before now : List B) (access : Access) (leaves : Leaves) (rest : List Access)
      → Accessed shows comes before now access leaves → (b : ℕ) → b ≢ access.bank
      → paths_shown shows before (access ∷ rest) b ≡ paths_shown shows now rest b
  paths-other before now access leaves rest made b other =
      ap (λ blocks. shown_of shows (oram_of before b) blocks) (in_bank-other b access rest other)
      ∙ ap (λ bank. shown_of shows bank (in_bank b rest)) (sym (made.others b other))

  -- the one that was accessed showed these paths
  shown_first : (block : ℕ) (leaves : Leaves) (later : List ℕ) (before now : Option B) → IsSome before
      → OfBoth before now (λ old new. (later : List ℕ) → shows old (block ∷ later) ≡ leaves ∷ shows new later)
      → shown_of shows before (block ∷ later) ≡ leaves ∷ shown_of shows now later
  shown_first block leaves later None now some both = absurd (false≢true some)
  shown_first block leaves later (Some old) None some both = absurd both
  shown_first block leaves later (Some old) (Some new) some both = both later

  paths-this : (before now : List B) (access : Access) (leaves : Leaves) (rest : List Access)
      → Accessed shows comes before now access leaves → 2 ≤ access.bank → (b : ℕ) → b ≡ access.bank
      → paths_shown shows before (access ∷ rest) b ≡ leaves ∷ paths_shown shows now rest b
  paths-this before now access leaves rest made two b is =
      ap (λ n. paths_shown shows before (access ∷ rest) n) is
      ∙ ap (λ blocks. shown_of shows (oram_of before access.bank) blocks) (in_bank-this access.bank access rest refl)
      ∙ shown_first access.block leaves (in_bank access.bank rest) (oram_of before access.bank)
      (oram_of now access.bank) (made.exists two) made.shown
      ∙ ap (λ n. leaves ∷ paths_shown shows now rest n) (sym is)

  -- an event that isn't an access to an oblivious bank
  none_told : (start : ℕ) (event : Option Observed) (events : List Stamped) (leaves : Leaves) (p q : ℕ → List Leaves)
      → told_bank event ≡ None → ((b : ℕ) → p b ≡ q b)
      → with_paths (stamped start event ++ events) p ≡ may_show start event leaves ++ with_paths events q
  none_told start None events leaves p q none same = with_paths-same events p q same
  none_told start (Some event) events leaves p q none same = plain (oblivious event) none
    where
      plain : (bank : Option ℕ) → bank ≡ None
          → AnEvent (seen_at start event) ∷ path_behind start bank (next_of bank p)
          ++ with_paths events (left_paths bank p)
          ≡ AnEvent (seen_at start event) ∷ path_behind start bank leaves ++ with_paths events q
      plain None is = ap (λ l. AnEvent (seen_at start event) ∷ l) (with_paths-same events (left_paths None p) q same)
      plain (Some bank) is = absurd (let f : ◌≡◌ {A = Option ℕ} (Some bank) None = is in cc)

  -- an event that is one
  one_told : (start bank : ℕ) (event : Option Observed) (events : List Stamped) (leaves : Leaves)
      (p q : ℕ → List Leaves)
      → told_bank event ≡ Some bank → p bank ≡ leaves ∷ q bank → ((b : ℕ) → b ≢ bank → p b ≡ q b)
      → with_paths (stamped start event ++ events) p ≡ may_show start event leaves ++ with_paths events q
  one_told start bank None events leaves p q some this others =
      absurd (let f : ◌≡◌ {A = Option ℕ} None (Some bank) = some in cc)
  one_told start bank (Some event) events leaves p q some this others =
      ap (λ found. AnEvent (seen_at start event) ∷ path_behind start found (next_of found p)
      ++ with_paths events (left_paths found p)) some
      ∙ ap (λ paths. AnEvent (seen_at start event) ∷ APath start bank (get_or paths 0 no_leaves)
      ∷ with_paths events (left_paths (Some bank) p)) this
      ∙ ap (λ l. AnEvent (seen_at start event) ∷ APath start bank leaves ∷ l)
      (with_paths-same events (left_paths (Some bank) p) q rest_same)
      ∙ ap (λ found. AnEvent (seen_at start event) ∷ path_behind start found leaves ++ with_paths events q) (sym some)
    where
      rest_same : (b : ℕ) → left_paths (Some bank) p b ≡ q b
      rest_same b =
          ⊎_elim
          (λ is. ap (λ same. cond same (drop 1 (p b)) (p b)) (eq-eqb b bank is) ∙ ap (λ n. drop 1 (p n)) is
          ∙ ap (λ paths. drop 1 paths) this ∙ ap q (sym is))
          (λ other. ap (λ same. cond same (drop 1 (p b)) (p b)) (ne_eqb b bank other) ∙ others b other)
          (cases_eq b bank)

  -- what is reported of a step that may access a bank, and what is left
  told_behind : (before now : List B) (made : Option Access) (leaves : Leaves)
      → MayAccess shows comes before now made leaves → (start : ℕ) (event : Option Observed)
      → told_bank event ≡ made_bank made → (events : List Stamped) (rest : List Access)
      → with_paths (stamped start event ++ events) (paths_shown shows before (at_most_one made ++ rest))
      ≡ may_show start event leaves ++ with_paths events (paths_shown shows now rest)
  told_behind before now None leaves made start event same events rest =
      none_told start event events leaves _ _ same (λ b. ap (λ orams. paths_shown shows orams rest b) (sym made))
  told_behind before now (Some access) leaves made start event same events rest = by_bank access.bank refl
    where
      by_bank : (bank : ℕ) → bank ≡ access.bank
          → with_paths (stamped start event ++ events) (paths_shown shows before (access ∷ rest))
          ≡ may_show start event leaves ++ with_paths events (paths_shown shows now rest)
      by_bank zero is =
          none_told start event events leaves _ _ (same ∙ ap if_oblivious (sym is)) (λ b.
          ⊎_elim
          (λ zero_is. ap (λ n. paths_shown shows before (access ∷ rest) n) zero_is
          ∙ ap (λ n. paths_shown shows now rest n) (sym zero_is))
          (λ other. paths-other before now access leaves rest made b (λ b_is. other (b_is ∙ sym is)))
          (cases_eq b 0))
      by_bank (suc zero) is =
          none_told start event events leaves _ _ (same ∙ ap if_oblivious (sym is)) (λ b.
          ⊎_elim
          (λ one_is. ap (λ n. paths_shown shows before (access ∷ rest) n) one_is
          ∙ ap (λ n. paths_shown shows now rest n) (sym one_is))
          (λ other. paths-other before now access leaves rest made b (λ b_is. other (b_is ∙ sym is)))
          (cases_eq b 1))
      by_bank (suc (suc i)) is =
          one_told start (suc (suc i)) event events leaves _ _ (same ∙ ap if_oblivious (sym is))
          (paths-this before now access leaves rest made (omega arith) (suc (suc i)) is)
          (λ b other. paths-other before now access leaves rest made b (λ b_is. other (b_is ∙ sym is)))

  -- what is left to report after a step
  abbrev pub left_behind : Parts → StepResult → List B → ℕ → List WatcherTold
  left_behind o (Goes event t) orams n = run_shown shows o t orams n
  left_behind o (Stops t) orams n = []
  left_behind o Faults orams n = []

  -- what a run shows, over one step
  pub run_shown-step : (o : Parts) → IsInRange o → (s : State) → IsShaped o s → (n : ℕ) → step_start o s < n
      → (before now : List B) (leaves : Leaves) → MayAccess shows comes before now (accessed o s) leaves
      → (outcome : StepResult) → step o s ≡ outcome
      → run_shown shows o s before n ≡ told_of_step (step_start o s) outcome leaves ++ left_behind o outcome now n
  run_shown-step o range s shaped n less before now leaves made (Goes event t) is =
      ap (λ events. with_paths events (paths_shown shows before (accesses_from o s n)))
      (trace_from-goes o range s event t n shaped is less)
      ∙ ap (λ accesses. with_paths (stamped (step_start o s) event ++ trace_from o t n)
      (paths_shown shows before accesses)) (accesses_from-step o range s (Goes event t) n shaped is less)
      ∙ told_behind before now (accessed o s) leaves made (step_start o s) event
      (ap (λ outcome. told_bank (event_of_outcome outcome)) (sym is) ∙ step-bank o s)
      (trace_from o t n) (accesses_from o t n)
  run_shown-step o range s shaped n less before now leaves made (Stops t) is =
      ap (λ events. with_paths events (paths_shown shows before (accesses_from o s n)))
      (trace_from-stops o range s t n shaped is less)
  run_shown-step o range s shaped n less before now leaves made Faults is =
      ap (λ events. with_paths events (paths_shown shows before (accesses_from o s n)))
      (trace_from-faults o range s n shaped is)
