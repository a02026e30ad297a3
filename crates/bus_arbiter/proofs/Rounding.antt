-- One slot, a period, and all periods.
use Rattle.std.proofs.Common.{◌≡◌, ◌≢◌, ℕ, ◌+◌, ◌-◌, ◌*◌, ◌<◌, ◌≤◌, min, List, [], ◌∷◌, ◌++◌, length, Contains, suc, Option, Some, None, ◌⊎◌, inl, inr, refl, sym, ap, ◌∙◌, subst, ⊎_elim, arith, append_assoc}
use Rattle.std.specs.Prelude.{slice_get}
use Rattle.std.proofs.Math.Nat.{suc-mul}
use Rattle.std.proofs.lemmas.List.{append-nil}
use Rattle.std.proofs.lemmas.List.Elements.{Contains-append_cases, Contains-append_left, Contains-append_right}
use Rattle.std.proofs.lemmas.Option.{same_Some, slice_get_within}
use Rattle.std.proofs.lemmas.Bool.{cases_eq, cases_lt}
use Rattle.lt_isa.specs.Prelude.{IsInRange, IsShaped}
use Rattle.lt_isa.proofs.Ends.{final_shaped}
use Rattle.bus_arbiter.specs.declared.shares.Share.{Share}
use Rattle.bus_arbiter.specs.Prelude.{AllStand, Core, LeftAt, LeftIf, NoneHalted, RanTo, shows_to, trace_to, traces_to, shown_if, AllHalted, Between, FailOn, GoOn, IsLive, IsNext, JoinFailed, JoinedOn, JoinedSoFar, NoneNext, Quiet, IsPlan, share_at, FailedAt, HearsThen, IsJoined, Rise, Transfer, of_core, transfers_of, AllLeft, Turned}
use Rattle.bus_arbiter.proofs.BusSteps.{all-stood}
use Rattle.bus_arbiter.proofs.CoreTransfers.{moves-below, run-moves, run-rises}
use Rattle.bus_arbiter.proofs.Joining.{core-of, in-traces, joined-all, joins-first, joins-later, joins-on, of-traces, shown-live}
use Rattle.bus_arbiter.proofs.TransferLists.{in-here, in-none, of_core-has, of_core-in, rise-append, rise-begins, rise-between, rise-front}
use Rattle.bus_arbiter.proofs.Plays.{get-set_other, get-set_same, shows-front}
use Rattle.bus_arbiter.proofs.Windows.{between-next, closed-till, in-period}

-- a core that has run stays in range and shaped
left-stands : {B : Type 0} (c d : Core B) (m : ℕ) → IsInRange c.machine.object
    → IsShaped c.machine.object c.machine.state → LeftAt c m d
    → IsInRange d.machine.object × IsShaped d.machine.object d.machine.state
left-stands {B = B} c d m range shaped left = by c.halted refl
  where
    by : (h : Option ℕ) → c.halted ≡ h → IsInRange d.machine.object × IsShaped d.machine.object d.machine.state
    by (Some at) is =
        let same : d ≡ c = subst (λ h. LeftIf h c m d) is left in
        subst (λ (x : Core B). IsInRange x.machine.object × IsShaped x.machine.object x.machine.state) (sym same)
        (range, shaped)
    by None is =
        let ran : RanTo c m d = subst (λ h. LeftIf h c m d) is left in (
          subst IsInRange (sym ran.object) range,
          subst (λ o. IsShaped o d.machine.state) (sym ran.object)
              (subst (IsShaped c.machine.object) (sym ran.state)
              (final_shaped c.machine.object range c.machine.state shaped m)),
        )

-- a core that hasn't halted where one was run hadn't halted before
live-before : {B : Type 0} (between after : List (Core B)) (core m : ℕ) (heard : List Transfer → Type 0)
    → Turned between after core m heard → (j : ℕ) → IsLive after j → IsLive between j
live-before {B = B} between after core m heard turned j live =
    ⊎_elim
    (λ (is : j ≡ core).
    subst (IsLive between) (sym is)
    (record { core = turned.was; there = turned.there; on = by is turned.was.halted refl }))
    (λ other. record {
      core = live.core;
      there =
          sym (get-set_other between core j turned.now other) ∙ ap (λ l. slice_get l j) (sym turned.put) ∙ live.there;
      on = live.on;
    })
    (cases_eq j core)
  where
    now-is : j ≡ core → turned.now ≡ live.core
    now-is is =
        same_Some turned.now live.core
        (sym (get-set_same between core turned.now (slice_get_within between core turned.was turned.there))
        ∙ ap (λ l. slice_get l core) (sym turned.put) ∙ ap (slice_get after) (sym is) ∙ live.there)

    by : j ≡ core → (h : Option ℕ) → turned.was.halted ≡ h → turned.was.halted ≡ None
    by is None was = was
    by is (Some at) was =
        let same : turned.now ≡ turned.was = subst (λ h. LeftIf h turned.was m turned.now) was turned.left in
        ap (λ (x : Core B). x.halted) (sym same ∙ now-is is) ∙ live.on

module _ {B : Type 0} (plan : List Share) (fits : IsPlan plan) (between : List (Core B)) (stand : AllStand plan between)
    (q base n : ℕ) (whole : base ≡ q * (share_at plan 0).period) where
  stood : (k : ℕ) (c : Core B) → slice_get between k ≡ Some c
      → IsInRange c.machine.object × IsShaped c.machine.object c.machine.state
  stood = all-stood plan between between stand refl

  -- a transfer that starts in this period starts in its core's window
  in-window : (k : ℕ) (d : Core B) → slice_get between k ≡ Some d → (t : Transfer) → Contains (shows_to k d n) t
      → base ≤ t.stamp → t.stamp < base + (share_at plan 0).period
      → ((share_at plan k).opens ≤ t.stamp - base) × (t.stamp - base < (share_at plan k).closes)
  in-window k d here t found from till =
      let live = shown-live k d n t found in
      let range = stood k d here in
      let moves = run-moves d.machine.object range.0 d.machine.state range.1 n k t live.1 in
      let within : k < length plan = omega (arith, slice_get_within between k d here, stand.count) in
      subst (λ b. b ≤ t.stamp → t.stamp < b + (share_at plan 0).period
      → ((share_at plan k).opens ≤ t.stamp - b) × (t.stamp - b < (share_at plan k).closes)) (sym whole)
      (λ f u. in-period plan fits k within d.machine.object (stand.each k d here).share q t.stamp f u moves.opened)
      from till

  -- a core that shows something hasn't halted
  shows-live : (k : ℕ) (d : Core B) → slice_get between k ≡ Some d → (t : Transfer) → Contains (shows_to k d n) t
      → IsLive between k
  shows-live k d here t found = record { core = d; there = here; on = (shown-live k d n t found).0 }

  module _ (from : ℕ) (apart : Between plan between from) where
    -- where no window opens any more, nothing starts until the next period
    pub none-starts : NoneNext plan between from → (k : ℕ) (d : Core B) → slice_get between k ≡ Some d → (t : Transfer)
        → Contains (shows_to k d n) t → base + from ≤ t.stamp → base + (share_at plan 0).period ≤ t.stamp
    none-starts none k d here t found late =
        ⊎_elim
        (λ less.
        let inside = in-window k d here t found (omega (arith, late)) less in
        let live = shows-live k d here t found in
        absurd (omega (arith, inside.1, late, apart k live (none k live))))
        (λ past. past)
        (cases_lt t.stamp (base + (share_at plan 0).period))

    module _ (core : ℕ) (next : IsNext plan between from core) where
      own-share : core < length plan
      own-share = omega (arith, next.exists, stand.count)

      -- no other core starts a transfer in the slot
      closed : (k : ℕ) (d : Core B) → k ≢ core → slice_get between k ≡ Some d → (t : Transfer)
          → Contains (shows_to k d n) t → base + from ≤ t.stamp → base + (share_at plan core).closes ≤ t.stamp
      closed k d other here t found late =
          ⊎_elim
          (λ less.
          let own = fits.fits core own-share in
          let same = fits.period core own-share in
          let inside = in-window k d here t found (omega (arith, late)) (omega (arith, less, own.within, same)) in
          absurd (closed-till plan fits between from core stand.count apart next k (t.stamp - base)
          (shows-live k d here t found) other (omega (arith, late)) (omega (arith, less, late)) inside.0 inside.1))
          (λ past. past)
          (cases_lt t.stamp (base + (share_at plan core).closes))

      from-to : base + from ≤ base + (share_at plan core).closes
      from-to = let own = fits.fits core own-share in omega (arith, next.opens, own.window)

      module _ (m : ℕ) (m-is : m ≡ min (base + (share_at plan core).closes) n) where
        -- the slot was gone through
        pub slot-on : (after : List (Core B)) (heard : List Transfer → Type 0) → Turned between after core m heard
            → GoOn between after (base + from) (base + (share_at plan core).closes) n heard
        slot-on after heard turned first told so_far =
            let own = stood core turned.was turned.there in
            let now = left-stands turned.was turned.now m own.0 own.1 turned.left in
            record {
              more = shows_to core turned.was m;
              joined =
                  joins-on first between after told (base + from) (base + (share_at plan core).closes) m n core stood
                  so_far turned.was turned.now turned.there turned.put turned.left
                  (omega (arith, m-is)) (λ t found below. omega (arith, m-is, below)) from-to closed
                  (λ t found late.
                  let live = shown-live core turned.now n t found in
                  let below =
                  moves-below turned.now.machine.object now.0 turned.now.machine.state n now.1 core t live.1 in
                  omega (arith, m-is, late, below));
              hears = turned.told;
            }

-- ---- one slot after the other

pub goes-then : {B W : Type 0} (one two three : List (Core B)) (at mid to n : ℕ)
    (hears : W → List Transfer → W → Type 0) (was is later : W) → HearsThen hears was is later
    → GoOn one two at mid n (λ l. hears was l is) → GoOn two three mid to n (λ l. hears is l later)
    → GoOn one three at to n (λ l. hears was l later)
goes-then one two three at mid to n hears was is later chain before after first told so_far =
    let half = before first told so_far in
    let whole = after first (told ++ half.more) half.joined in
    record {
      more = half.more ++ whole.more;
      joined =
          subst (λ l. JoinedSoFar first three l to n) (append_assoc told half.more whole.more) whole.joined;
      hears = chain half.more whole.more half.hears whole.hears;
    }

pub fails-then : {B W : Type 0} (one two : List (Core B)) (at mid n : ℕ) (hears : W → List Transfer → W → Type 0)
    (was is later : W) → HearsThen hears was is later → (torn : Transfer → Type 0)
    → GoOn one two at mid n (λ l. hears was l is) → FailOn two mid n hears is later torn
    → FailOn one at n hears was later torn
fails-then one two at mid n hears was is later chain torn before after first told so_far =
    let half = before first told so_far in
    let failed = after first (told ++ half.more) half.joined in
    record {
      more = half.more ++ failed.more;
      next = failed.next;
      heard = chain half.more failed.more half.hears failed.heard;
      at = failed.at;
      front = λ live joined is.
          let found = failed.front live joined is in
          (found.0, found.1 ∙ ap (λ l. l ++ failed.next ∷ found.0) (append_assoc told half.more failed.more));
    }

-- nothing starts until a later cycle
pub goes-later : {B : Type 0} (one two : List (Core B)) (at mid to n : ℕ) (heard : List Transfer → Type 0) → mid ≤ to
    → ((k : ℕ) (d : Core B) → slice_get two k ≡ Some d → (t : Transfer) → Contains (shows_to k d n) t
    → mid ≤ t.stamp → to ≤ t.stamp) → GoOn one two at mid n heard → GoOn one two at to n heard
goes-later one two at mid to n heard le none before first told so_far =
    let half = before first told so_far in
    record {
      more = half.more;
      joined = joins-later first two (told ++ half.more) mid to n le none half.joined;
      hears = half.hears;
    }

-- past the last cycle, or where all have halted, no core shows anything more
pub quiet-late : {B : Type 0} (first now : List (Core B)) (told : List Transfer) (at n : ℕ)
    → ((k : ℕ) (c : Core B) → slice_get now k ≡ Some c
    → IsInRange c.machine.object × IsShaped c.machine.object c.machine.state)
    → n ≤ at → JoinedSoFar first now told at n → Quiet now n
quiet-late first now told at n stand past so_far k d here = nothing (shows_to k d n) (λ t found.
    let live = shown-live k d n t found in
    let own = stand k d here in
    let below = moves-below d.machine.object own.0 d.machine.state n own.1 k t live.1 in
    omega (arith, past, so_far.late k d here t found, below))
  where
    nothing : (l : List Transfer) → ((t : Transfer) → Contains l t → ⊥) → l ≡ []
    nothing [] none = refl
    nothing (t ∷ l) none = absurd (none t (in-here t l))

pub quiet-halted : {B : Type 0} (now : List (Core B)) (n : ℕ) → AllHalted now → Quiet now n
quiet-halted now n halted k d here = by d.halted refl
  where
    by : (h : Option ℕ) → d.halted ≡ h → shown_if h (transfers_of k (trace_to d n)) ≡ []
    by None is = absurd (halted k d here is)
    by (Some at) is = refl

-- ---- the watcher fails in a slot

module _ {B W : Type 0} (between : List (Core B)) (at to m n core : ℕ)
    (stand : (k : ℕ) (c : Core B) → slice_get between k ≡ Some c
    → IsInRange c.machine.object × IsShaped c.machine.object c.machine.state)
    (c : Core B) (there : slice_get between core ≡ Some c) (m_by : m ≤ n) (m_to : m ≤ to)
    (closed : (k : ℕ) (d : Core B) → k ≢ core → slice_get between k ≡ Some d → (t : Transfer)
    → Contains (shows_to k d n) t → at ≤ t.stamp → to ≤ t.stamp)
    (hears : W → List Transfer → W → Type 0) (was is_now : W) (torn : Transfer → Type 0)
    (failed : FailedAt hears was is_now torn (shows_to core c m)) (first : List (Core B)) (told : List Transfer)
    (so_far : JoinedSoFar first between told at n) where
  -- what the core shows up to the slot's end, and after it
  behind : (rest : List Transfer) × (shows_to core c n ≡ shows_to core c m ++ rest)
  behind = shows-front core c m n m_by (stand core c there).0 (stand core c there).1

  abbrev part : List Transfer
  part = failed.told ++ failed.next ∷ []

  whole : shows_to core c n ≡ part ++ (failed.rest ++ behind.0)
  whole =
      behind.1 ∙ ap (λ l. l ++ behind.0) failed.front
      ∙ append_assoc failed.told (failed.next ∷ failed.rest) behind.0
      ∙ sym (append_assoc failed.told (failed.next ∷ []) (failed.rest ++ behind.0))

  rises-whole : Rise (shows_to core c n)
  rises-whole = by c.halted
    where
      by : (h : Option ℕ) → Rise (shown_if h (transfers_of core (trace_to c n)))
      by None =
          run-rises c.machine.object (stand core c there).0 c.machine.state (stand core c there).1 n core
      by (Some halt) = tt

  rises-parts : Rise (part ++ (failed.rest ++ behind.0))
  rises-parts = subst Rise whole rises-whole

  part-shown : (t : Transfer) → Contains part t → Contains (shows_to core c n) t
  part-shown t found =
      subst (λ l. Contains l t) (sym whole) (Contains-append_left part (failed.rest ++ behind.0) t found)

  part-late : (t : Transfer) → Contains part t → at ≤ t.stamp
  part-late t found = so_far.late core c there t (part-shown t found)

  -- what is reported or fails starts in the slot
  part-early : (t : Transfer) → Contains part t → t.stamp < m
  part-early t found =
      let shown : Contains (shows_to core c m) t =
      subst (λ l. Contains l t) (sym (failed.front ∙ sym (append_assoc failed.told (failed.next ∷ []) failed.rest)))
      (Contains-append_left part failed.rest t found) in
      let live = shown-live core c m t shown in
      moves-below c.machine.object (stand core c there).0 c.machine.state m (stand core c there).1 core t live.1

  abbrev front : List Transfer
  front = told ++ part

  front-rises : Rise front
  front-rises =
      rise-append told part so_far.rises (rise-front part (failed.rest ++ behind.0) rises-parts)
      (λ t u ct cu. omega (arith, so_far.early t ct, part-late u cu))

  module _ (live : NoneHalted first) (joined : List Transfer) (is : IsJoined (traces_to first n) joined) where
    origin : (k : ℕ) → k < length first → (x : Core B) × (slice_get first k ≡ Some x)
    origin k within = core-of first k within

    -- what a core shows of the whole run is in the list, and nothing else of that core
    has : (k : ℕ) (x : Core B) → slice_get first k ≡ Some x → (t : Transfer) → Contains (shows_to k x n) t
        → Contains joined t
    has k x here t found = (is.each t).1 (in-traces first n live k x here t found)

    from-joined : (t : Transfer) → Contains joined t
        → (x : Core B) × (slice_get first t.core ≡ Some x) × Contains (shows_to t.core x n) t
    from-joined t found = of-traces first n live t ((is.each t).0 found)

    now-there : (k : ℕ) (x : Core B) → slice_get first k ≡ Some x → (d : Core B) × (slice_get between k ≡ Some d)
    now-there k x here = core-of between k (omega (arith, slice_get_within first k x here, so_far.count))

    all-in : (u : Transfer) → Contains front u → Contains joined u
    all-in u found =
        ⊎_elim
        (λ old.
        ⊎_elim
        (λ less.
        let x = origin u.core less in
        let d = now-there u.core x.0 x.1 in
        has u.core x.0 x.1 u
        (subst (λ l. Contains l u) (sym (so_far.onward u.core x.0 d.0 x.1 d.1).shows)
        (Contains-append_left (of_core u.core told) (shows_to u.core d.0 n) u (of_core-has told u old))))
        (λ past. absurd (in-none u (subst (λ l. Contains l u) (so_far.others u.core past) (of_core-has told u old))))
        (cases_lt u.core (length first)))
        (λ new.
        let x = origin core (omega (arith, slice_get_within between core c there, so_far.count)) in
        has core x.0 x.1 u
        (subst (λ l. Contains l u) (sym (so_far.onward core x.0 c x.1 there).shows)
        (Contains-append_right (of_core core told) (shows_to core c n) u (part-shown u new))))
        (Contains-append_cases told part u found)

    -- the rest of the core that was run
    own-else : (t : Transfer) → Contains (shows_to core c n) t
        → Contains front t ⊎ ((u : Transfer) → Contains front u → u.stamp < t.stamp)
    own-else t found =
        ⊎_elim
        (λ here. inl (Contains-append_right told part t here))
        (λ later. inr (λ u cu.
        ⊎_elim
        (λ old. omega (arith, so_far.early u old, so_far.late core c there t found))
        (λ new. rise-between part (failed.rest ++ behind.0) rises-parts u t new later)
        (Contains-append_cases told part u cu)))
        (Contains-append_cases part (failed.rest ++ behind.0) t (subst (λ l. Contains l t) whole found))

    other-else : (k : ℕ) (d : Core B) → k ≢ core → slice_get between k ≡ Some d → (t : Transfer)
        → Contains (shows_to k d n) t → (u : Transfer) → Contains front u → u.stamp < t.stamp
    other-else k d other here t found u cu =
        let late = so_far.late k d here t found in
        let past = closed k d other here t found late in
        ⊎_elim
        (λ old. omega (arith, so_far.early u old, late))
        (λ new. omega (arith, part-early u new, m_to, past))
        (Contains-append_cases told part u cu)

    all-else : (t : Transfer) → Contains joined t
        → Contains front t ⊎ ((u : Transfer) → Contains front u → u.stamp < t.stamp)
    all-else t found =
        let x = from-joined t found in
        let d = now-there t.core x.0 x.1 in
        ⊎_elim
        (λ old. inl (Contains-append_left told part t (of_core-in t.core told t old).0))
        (λ left.
        ⊎_elim
        (λ (same : t.core ≡ core).
        own-else t
        (subst (λ (y : Core B). Contains (shows_to core y n) t)
        (same_Some d.0 c (sym d.1 ∙ ap (slice_get between) same ∙ there))
        (subst (λ k. Contains (shows_to k d.0 n) t) same left)))
        (λ other. inr (other-else t.core d.0 other d.1 t left))
        (cases_eq t.core core))
        (Contains-append_cases (of_core t.core told) (shows_to t.core d.0 n) t
        (subst (λ l. Contains l t) (so_far.onward t.core x.0 d.0 x.1 d.1).shows x.2))

    pub is-front : (rest : List Transfer) × (joined ≡ (told ++ failed.told) ++ failed.next ∷ rest)
    is-front =
        let found = rise-begins joined front is.rises front-rises all-in all-else in (
          found.0,
          found.1 ∙ ap (λ l. l ++ found.0) (sym (append_assoc told failed.told (failed.next ∷ [])))
              ∙ append_assoc (told ++ failed.told) (failed.next ∷ []) found.0,
        )

  pub slot-failed : JoinFailed first told n hears was is_now torn
  slot-failed = record {
    more = failed.told;
    next = failed.next;
    heard = failed.heard;
    at = failed.at;
    front = is-front;
  }

-- ---- a slot of a bus

module _ {B : Type 0} (plan inside : List Share) (same : inside ≡ plan) (fits : IsPlan inside)
    (between : List (Core B)) (stand : AllStand plan between) (base n : ℕ)
    (periods : (q : ℕ) × (base ≡ q * (share_at plan 0).period)) (from : ℕ) (apart : Between plan between from) where
  plan-fits : IsPlan plan
  plan-fits = subst IsPlan same fits

  module _ (core : ℕ) (next : IsNext inside between from core) (closes wide m : ℕ)
      (closes-is : closes ≡ (share_at inside core).closes) (wide-is : wide ≡ closes) (m-is : m ≡ min (base + wide) n) where
    next-is : IsNext plan between from core
    next-is = subst (λ l. IsNext l between from core) same next

    in-plan : core < length plan
    in-plan = omega (arith, next-is.exists, stand.count)

    closes-same : (share_at plan core).closes ≡ closes
    closes-same = sym (closes-is ∙ ap (λ l. (share_at l core).closes) same)

    m-same : m ≡ min (base + (share_at plan core).closes) n
    m-same = m-is ∙ ap (λ x. min (base + x) n) (wide-is ∙ sym closes-same)

    pub round-slot : (after : List (Core B)) (heard : List Transfer → Type 0) → Turned between after core m heard
        → GoOn between after (base + from) (base + closes) n heard
    round-slot after heard turned =
        subst (λ x. GoOn between after (base + from) (base + x) n heard) closes-same
        (slot-on plan plan-fits between stand periods.0 base n periods.1 from apart core next-is m m-same after heard
        turned)

    pub round-between : (after : List (Core B)) (heard : List Transfer → Type 0) → Turned between after core m heard
        → Between plan after closes
    round-between after heard turned j live opens =
        let mid : Between plan between closes =
        subst (Between plan between) closes-same
        (between-next plan plan-fits between from core stand.count apart next-is) in
        mid j (live-before between after core m heard turned j live) opens

    pub round-within : closes ≤ (share_at plan 0).period
    round-within =
        let own = plan-fits.fits core in-plan in
        omega (arith, own.within, plan-fits.period core in-plan, closes-same)

    pub round-rises : from + 1 ≤ closes
    round-rises =
        let own = plan-fits.fits core in-plan in omega (arith, next-is.opens, own.window, closes-same)

    pub round-fails : {W : Type 0} (hears : W → List Transfer → W → Type 0) (was is : W) (torn : Transfer → Type 0)
        → (c : Core B) × (slice_get between core ≡ Some c) × FailedAt hears was is torn (shows_to core c m)
        → FailOn between (base + from) n hears was is torn
    round-fails hears was is torn failed first told so_far =
        slot-failed between (base + from) (base + (share_at plan core).closes) m n core
        (all-stood plan between between stand refl) failed.0 failed.1 (omega (arith, m-same)) (omega (arith, m-same))
        (closed plan plan-fits between stand periods.0 base n periods.1 from apart core next-is)
        hears was is torn failed.2 first told so_far

  pub round-ends : NoneNext inside between from → from ≤ (share_at plan 0).period → (one : List (Core B)) (at : ℕ)
      → (heard : List Transfer → Type 0) → GoOn one between at (base + from) n heard
      → GoOn one between at (base + (share_at plan 0).period) n heard
  round-ends none within one at heard before =
      goes-later one between at (base + from) (base + (share_at plan 0).period) n heard (omega (arith, within))
      (none-starts plan plan-fits between stand periods.0 base n periods.1 from apart
      (subst (λ l. NoneNext l between from) same none)) before

-- ---- the whole run

pub all-left : {B : Type 0} (before between after : List (Core B)) (told : List Transfer) (at n : ℕ)
    → JoinedSoFar before between told at n → AllLeft between n after → AllLeft before n after
all-left before between after told at n so_far left = record {
  count = left.count ∙ so_far.count;
  each = λ k c e there last.
      let d = core-of between k (omega (arith, slice_get_within before k c there, so_far.count)) in
      (so_far.onward k c d.0 there d.1).left e (left.each k d.0 e d.1 last);
}

pub all-joined : {B W : Type 0} (before now : List (Core B)) (at n : ℕ) (hears : W → List Transfer → W → Type 0)
    (was is later : W) → HearsThen hears was is later → NoneHalted before
    → JoinedOn before now [] at n (λ l. hears was l is) → Quiet now n → hears is [] later
    → (joined : List Transfer) × IsJoined (traces_to before n) joined × hears was joined later
all-joined before now at n hears was is later chain live on quiet last = (
  on.more,
  joined-all before now on.more at n live on.joined quiet
      (λ k c there. core-of now k (omega (arith, slice_get_within before k c there, on.joined.count))),
  subst (λ l. hears was l later) (append-nil on.more) (chain on.more [] on.hears last),
)

-- nothing was reported yet, and more is reported
pub joined-first : {B : Type 0} (cores : List (Core B)) (n : ℕ) (heard : List Transfer → Type 0) → heard []
    → ((k : ℕ) (c : Core B) → slice_get cores k ≡ Some c
    → IsInRange c.machine.object × IsShaped c.machine.object c.machine.state)
    → JoinedOn cores cores [] 0 n heard
joined-first cores n heard none stand = record { more = []; joined = joins-first cores n stand; hears = none }

pub joined-then : {B W : Type 0} (first mid now : List (Core B)) (at to n : ℕ)
    (hears : W → List Transfer → W → Type 0) (was is later : W) → HearsThen hears was is later
    → JoinedOn first mid [] at n (λ l. hears was l is) → GoOn mid now at to n (λ l. hears is l later)
    → JoinedOn first now [] to n (λ l. hears was l later)
joined-then first mid now at to n hears was is later chain on next =
    let more = next first on.more on.joined in
    record {
      more = on.more ++ more.more;
      joined = more.joined;
      hears = chain on.more more.more on.hears more.hears;
    }

pub joined-fails : {B W : Type 0} (first mid : List (Core B)) (at n : ℕ) (hears : W → List Transfer → W → Type 0)
    (was is later : W) → HearsThen hears was is later → (torn : Transfer → Type 0)
    → JoinedOn first mid [] at n (λ l. hears was l is) → FailOn mid at n hears is later torn
    → JoinFailed first [] n hears was later torn
joined-fails first mid at n hears was is later chain torn on fails =
    let failed = fails first on.more on.joined in
    record {
      more = on.more ++ failed.more;
      next = failed.next;
      heard = chain on.more failed.more on.hears failed.heard;
      at = failed.at;
      front = failed.front;
    }

-- one period more
pub period-more : (q base width : ℕ) → base ≡ q * width → base + width ≡ (q + 1) * width
period-more q base width is =
    let one : q + 1 ≡ suc q = omega arith in
    let more : suc q * width ≡ q * width + width = omega (arith, suc-mul q width) in
    omega (arith, is, more, ap (λ n. n * width) one)
