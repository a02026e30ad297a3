-- Cores that were run on to their next accesses: nothing was told, and what is left to be told is the same.
use Rattle.std.proofs.Common.{◌≡◌, ◌≢◌, ℕ, ◌+◌, ◌*◌, ◌/◌, ◌≤◌, min, max, List, [], ◌++◌, length, Contains, Some, None, ◌⊎◌, inl, inr, refl, sym, ap, ◌∙◌, subst, ⊎_elim, arith}
use Rattle.std.proofs.Math.Nat.{div-mul-le_self}
use Rattle.std.specs.Prelude.{slice_get}
use Rattle.std.proofs.lemmas.List.{append-nil}
use Rattle.std.proofs.lemmas.List.Elements.{Contains-append_right}
use Rattle.std.proofs.lemmas.Option.{same_Some, slice_get_within}
use Rattle.std.proofs.lemmas.Bool.{cases_eq, cases_lt}
use Rattle.lt_isa.specs.Prelude.{IsInRange, IsShaped, step_start, HaltsAt}
use Rattle.processor.specs.Prelude.{EndsAs, Running, PausesAt}
use Rattle.bus_arbiter.specs.Prelude.{Core, LeftAt, LeftIf, end_as, shown_if, shows_to, trace_to, CorePaused, JoinedOn, JoinedSoFar, NoneBefore, StayJoined, StayUntil, Transfer, transfers_of}
use Rattle.bus_arbiter.proofs.CoreRuns.{both-show}
use Rattle.bus_arbiter.proofs.CoreTransfers.{run-moves}
use Rattle.bus_arbiter.proofs.Joining.{joins-later, joins-on, shown-live}
use Rattle.bus_arbiter.proofs.Plays.{get-set_other, get-set_same, length-put}
use Rattle.bus_arbiter.proofs.TransferLists.{in-none}

-- ---- one core

-- a machine that paused before its next event, as a core that hasn't halted
module _ {B : Type 0} (c : Core B) (machine : Running B) (n start : ℕ) (live : c.halted ≡ None)
    (object : machine.object ≡ c.machine.object)
    (paused : PausesAt c.machine.object c.machine.state n start machine.state) where
  abbrev pub paused-core : Core B
  paused-core = record { machine = machine; halted = c.halted }

  pub paused-left : LeftAt c (min start n) paused-core
  paused-left =
      subst (λ h. LeftIf h c (min start n) paused-core) (sym live) (record {
        object = object;
        state = paused.state;
        ends =
            subst (λ h. EndsAs (trace_to c (min start n)) (end_as h)) (sym live)
            (λ at halts. in-none _ (subst (λ events. HaltsAt events at) paused.quiet halts));
      })

  pub paused-quiet : (k : ℕ) → shows_to k c (min start n) ≡ []
  paused-quiet k =
      ap (λ h. shown_if h (transfers_of k (trace_to c (min start n)))) live ∙ ap (transfers_of k) paused.quiet

  pub paused-late : IsInRange machine.object → IsShaped machine.object machine.state → (k : ℕ) (t : Transfer)
      → Contains (shows_to k paused-core n) t → start ≤ t.stamp
  paused-late range shaped k t found =
      let shown = shown-live k paused-core n t found in
      let moves = run-moves machine.object range machine.state shaped n k t shown.1 in
      let begins : start ≡ step_start machine.object machine.state =
      paused.starts ∙ ap (λ o. step_start o machine.state) (sym object) in
      omega (arith, begins, moves.not_before)

-- a core that has halted stays
pub halted-left : {B : Type 0} (c : Core B) (at m : ℕ) → c.halted ≡ Some at → LeftAt c m c
halted-left c at m is = subst (λ h. LeftIf h c m c) (sym is) refl

pub halted-quiet : {B : Type 0} (c : Core B) (at m : ℕ) → c.halted ≡ Some at → (k : ℕ) → shows_to k c m ≡ []
halted-quiet c at m is k = ap (λ h. shown_if h (transfers_of k (trace_to c m))) is

pub halted-late : {B : Type 0} (c : Core B) (at n start : ℕ) → c.halted ≡ Some at → (k : ℕ) (t : Transfer)
    → Contains (shows_to k c n) t → start ≤ t.stamp
halted-late c at n start is k t found =
    absurd (in-none t (subst (λ l. Contains l t) (halted-quiet c at n is k) found))

-- ---- all cores

module _ {B : Type 0} (between after : List (Core B)) (core n start : ℕ) (paused : CorePaused between after core n start)
  where
    no-others : (k : ℕ) (d : Core B) → k ≢ core → slice_get after k ≡ Some d → slice_get between k ≡ Some d
    no-others k d other here =
        sym (get-set_other between core k paused.now other) ∙ ap (λ l. slice_get l k) (sym paused.put) ∙ here

    pub pause-count : length after ≡ length between
    pause-count = ap length paused.put ∙ length-put between core paused.now

    pub none-paused : (i j : ℕ) → j ≤ start → NoneBefore between i n j → core ≡ i → NoneBefore after (i + 1) n j
    none-paused i j early none same k d less here t found =
        ⊎_elim
        (λ (is : k ≡ core).
        let put : paused.now ≡ d =
        same_Some paused.now d
        (sym (get-set_same between core paused.now (slice_get_within between core paused.was paused.there))
        ∙ ap (λ l. slice_get l core) (sym paused.put) ∙ ap (slice_get after) (sym is) ∙ here) in
        let own : Contains (shows_to core paused.now n) t =
        subst (λ j. Contains (shows_to j paused.now n) t) is
        (subst (λ (x : Core B). Contains (shows_to k x n) t) (sym put) found) in
        omega (arith, early, paused.late t own))
        (λ other. none k d (omega (arith, less, other, same)) (no-others k d other here) t found)
        (cases_eq k core)

    module _ (stand : (k : ℕ) (c : Core B) → slice_get between k ≡ Some c
        → IsInRange c.machine.object × IsShaped c.machine.object c.machine.state) where
      -- what the core still shows, it showed before
      rest-shown : (t : Transfer) → Contains (shows_to core paused.now n) t → Contains (shows_to core paused.was n) t
      rest-shown t found =
          let own = stand core paused.was paused.there in
          subst (λ l. Contains l t)
          (sym (both-show core paused.was paused.now (min start n) n own.0 own.1 n (omega arith) paused.left))
          (Contains-append_right (shows_to core paused.was (min start n)) (shows_to core paused.now n) t found)

      -- what is left to be told stays
      pub pause-joined : StayJoined between after n
      pause-joined first told at so_far =
          let nothing : told ++ shows_to core paused.was (min start n) ≡ told =
          ap (λ l. told ++ l) paused.quiet ∙ append-nil told in
          subst (λ l. JoinedSoFar first after l at n) nothing
          (joins-on first between after told at at (min start n) n core stand so_far paused.was paused.now paused.there
          paused.put paused.left (omega arith)
          (λ t found below. absurd (in-none t (subst (λ l. Contains l t) paused.quiet found)))
          (omega arith) (λ k d other here t found late. late)
          (λ t found reached. so_far.late core paused.was paused.there t (rest-shown t found)))

-- a lower bound is also one
pub none-lower : {B : Type 0} (cores : List (Core B)) (i n start lower : ℕ) → lower ≤ start
    → NoneBefore cores i n start → NoneBefore cores i n lower
none-lower cores i n start lower le none k d less here t found = omega (arith, le, none k d less here t found)

pub stay-then : {B : Type 0} (one two three : List (Core B)) (n : ℕ) → StayJoined one two n → StayJoined two three n
    → StayJoined one three n
stay-then one two three n before after first told at so_far = after first told at (before first told at so_far)

-- all cores have paused, and the next period is the one of the first transfer
pub skips-on : {B : Type 0} (before after : List (Core B)) (i at start to n : ℕ) → StayJoined before after n
    → NoneBefore after i n start → length after ≤ i → at ≤ to → (to ≤ at) ⊎ (to ≤ start)
    → StayUntil before after at to n
skips-on before after i at start to n stay none all le early first told so_far =
    joins-later first after told at to n le
    (λ k d here t found late.
    ⊎_elim
    (λ old. omega (arith, old, late))
    (λ next. omega (arith, next, none k d (omega (arith, all, slice_get_within after k d here)) here t found))
    early)
    (stay first told at so_far)

pub joined-stays : {B : Type 0} (first mid now : List (Core B)) (at to n : ℕ) (heard : List Transfer → Type 0)
    → JoinedOn first mid [] at n heard → StayUntil mid now at to n → JoinedOn first now [] to n heard
joined-stays first mid now at to n heard on stay =
    record { more = on.more; joined = stay first on.more on.joined; hears = on.hears }

-- ---- where the next period begins

-- the later of two cycles, at which periods begin
pub later-whole : (from to width : ℕ) → (q : ℕ) × (from ≡ q * width) → (q : ℕ) × (to ≡ q * width)
    → (q : ℕ) × (max from to ≡ q * width)
later-whole from to width one two =
    ⊎_elim
    (λ less. (two.0, omega (arith, less, two.1)))
    (λ past. (one.0, omega (arith, past, one.1)))
    (cases_lt from to)

-- it is the first one, or isn't past the first transfer
pub later-early : (from start width to : ℕ) → to ≡ max from (start / width * width) → (to ≤ from) ⊎ (to ≤ start)
later-early from start width to is =
    ⊎_elim
    (λ less. inr (omega (arith, less, is, div-mul-le_self start width)))
    (λ past. inl (omega (arith, past, is)))
    (cases_lt from (start / width * width))
