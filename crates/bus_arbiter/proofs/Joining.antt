-- All cores of a bus, run window by window: what is reported is the joined list.
use Rattle.std.proofs.Common.{◌≡◌, ◌≢◌, ℕ, zero, suc, ◌<◌, ◌≤◌, max, List, [], ◌∷◌, ◌++◌, length, Contains, Option, Some, None, refl, sym, ap, ◌∙◌, subst, ⊎_elim, arith, append_assoc}
use Rattle.std.specs.Prelude.{slice_get, slice_set, slice_index_or}
use Rattle.std.proofs.lemmas.List.{append-nil, length-map, get_or-map}
use Rattle.std.proofs.lemmas.List.Elements.{Contains-append_cases, Contains-append_left}
use Rattle.std.proofs.lemmas.Option.{none-some, same_Some, slice_get_within, get_or_from_slice_get}
use Rattle.std.proofs.lemmas.Bool.{cases_eq, cases_lt}
use Rattle.lt_isa.specs.Prelude.{IsInRange, IsShaped, Faults, step, seen_at, trace_from, final_from}
use Rattle.lt_isa.proofs.Runs.{trace_from-faults}
use Rattle.lt_isa.proofs.Ends.{final_shaped, spent-from_no_halt}
use Rattle.processor.specs.Prelude.{EndsAs}
use Rattle.bus_arbiter.specs.Prelude.{Core, LeftAt, LeftIf, NoneHalted, RanTo, end_as, shown_if, shows_to, trace_to, traces_to, JoinedSoFar, Onward, IsJoined, IsTransferIn, Rise, Transfer, of_core, transfers_of}
use Rattle.bus_arbiter.proofs.TransferLists.{has-shown, in-none, of_core-append, of_core-has, of_core-in, rise-append, shown-as}
use Rattle.bus_arbiter.proofs.CoreRuns.{both-leave, both-show, stays-at}
use Rattle.bus_arbiter.proofs.CoreTransfers.{moves-below, run-moves, run-rises}
use Rattle.bus_arbiter.proofs.Plays.{get-set_other, get-set_same, length-put, other-shows, own-shows}
use Rattle.processor.specs.declared.ends.End.TheVariants as end

-- ---- one core

-- anything that a core shows, a run of its object shows, if it hasn't halted
pub shown-live : {B : Type 0} (k : ℕ) (c : Core B) (n : ℕ) (t : Transfer) → Contains (shows_to k c n) t
    → (c.halted ≡ None) × Contains (transfers_of k (trace_to c n)) t
shown-live k c n t found = by c.halted refl
  where
    by : (h : Option ℕ) → c.halted ≡ h → (c.halted ≡ None) × Contains (transfers_of k (trace_to c n)) t
    by None is = (is, subst (λ h. Contains (shown_if h (transfers_of k (trace_to c n))) t) is found)
    by (Some at) is =
        absurd (in-none t (subst (λ h. Contains (shown_if h (transfers_of k (trace_to c n))) t) is found))

-- what is left of a core that has run up to cycle m starts no earlier
pub left-later : {B : Type 0} (k : ℕ) (c d : Core B) (m n : ℕ) → IsInRange c.machine.object
    → IsShaped c.machine.object c.machine.state → LeftAt c m d → (t : Transfer) → Contains (shows_to k d n) t
    → m ≤ t.stamp
left-later {B = B} k c d m n range shaped left t found = by c.halted refl
  where
    live : (d.halted ≡ None) × Contains (transfers_of k (trace_to d n)) t
    live = shown-live k d n t found

    by : (h : Option ℕ) → c.halted ≡ h → m ≤ t.stamp
    by (Some at) is =
        let same : d ≡ c = subst (λ h. LeftIf h c m d) is left in
        absurd (let f : ◌≡◌ {A = Option ℕ} None (Some at) =
        sym live.0 ∙ ap (λ (x : Core B). x.halted) same ∙ is in cc)
    by None is =
        let ran : RanTo c m d = subst (λ h. LeftIf h c m d) is left in
        let spent : EndsAs (trace_to c m) end.Spent =
        subst (λ h. EndsAs (trace_to c m) (end_as h)) live.0 ran.ends in
        let o = c.machine.object in
        let u = final_from o c.machine.state m in
        let there : Contains (transfers_of k (trace_from o u n)) t =
        subst (λ s. Contains (transfers_of k (trace_from o s n)) t) ran.state
        (subst (λ p. Contains (transfers_of k (trace_from p d.machine.state n)) t) ran.object live.1) in
        let behind = final_shaped o range c.machine.state shaped m in
        ⊎_elim
        (λ past. omega (arith, past, (run-moves o range u behind n k t there).not_before))
        (λ (faults : step o u ≡ Faults).
        absurd (in-none t (subst (λ l. Contains (transfers_of k l) t) (trace_from-faults o range u n behind faults)
        there)))
        (spent-from_no_halt o range c.machine.state shaped m spent).ended

-- ---- all cores

pub joins-first : {B : Type 0} (cores : List (Core B)) (n : ℕ)
    → ((k : ℕ) (c : Core B) → slice_get cores k ≡ Some c
    → IsInRange c.machine.object × IsShaped c.machine.object c.machine.state)
    → JoinedSoFar cores cores [] 0 n
joins-first {B = B} cores n stand = record {
  count = refl;
  onward = λ k c d there here. let same : c ≡ d = same_Some c d (sym there ∙ here) in
      record {
        in_range = (stand k c there).0;
        shaped = (stand k c there).1;
        reached = 0;
        within = omega arith;
        ran = subst (λ (x : Core B). LeftAt c 0 x) same (stays-at c);
        shows = ap (λ (x : Core B). shows_to k x n) same;
        left = λ e left. subst (λ (x : Core B). LeftAt x n e) (sym same) left;
      };
  others = λ k past. refl;
  rises = tt;
  early = λ t found. absurd (in-none t found);
  late = λ k d here t found. omega arith;
}

-- nothing starts until a later cycle
pub joins-later : {B : Type 0} (before now : List (Core B)) (told : List Transfer) (at to n : ℕ) → at ≤ to
    → ((k : ℕ) (d : Core B) → slice_get now k ≡ Some d → (t : Transfer) → Contains (shows_to k d n) t
    → at ≤ t.stamp → to ≤ t.stamp)
    → JoinedSoFar before now told at n → JoinedSoFar before now told to n
joins-later before now told at to n le none so_far = record {
  count = so_far.count;
  onward = so_far.onward;
  others = so_far.others;
  rises = so_far.rises;
  early = λ t found. omega (arith, so_far.early t found, le);
  late = λ k d here t found. none k d here t found (so_far.late k d here t found);
}

-- one core has run up to cycle m, in which no other starts a transfer
module _ {B : Type 0} (before between after : List (Core B)) (told : List Transfer) (at to m n core : ℕ)
    (stand : (k : ℕ) (c : Core B) → slice_get between k ≡ Some c
    → IsInRange c.machine.object × IsShaped c.machine.object c.machine.state)
    (so_far : JoinedSoFar before between told at n) (was now : Core B) (there : slice_get between core ≡ Some was)
    (put : after ≡ slice_set between core now) (left : LeftAt was m now) (m_by : m ≤ n)
    (in_time : (t : Transfer) → Contains (shows_to core was m) t → t.stamp < m → t.stamp < to) (le : at ≤ to)
    (closed : (k : ℕ) (d : Core B) → k ≢ core → slice_get between k ≡ Some d → (t : Transfer)
    → Contains (shows_to k d n) t → at ≤ t.stamp → to ≤ t.stamp)
    (reached : (t : Transfer) → Contains (shows_to core now n) t → m ≤ t.stamp → to ≤ t.stamp) where
  abbrev stood : IsInRange was.machine.object × IsShaped was.machine.object was.machine.state
  stood = stand core was there

  abbrev pub new : List Transfer
  new = shows_to core was m

  parts : shows_to core was n ≡ new ++ shows_to core now n
  parts = both-show core was now m n stood.0 stood.1 n (omega (arith, m_by)) left

  leaves : (e : Core B) → LeftAt now n e → LeftAt was n e
  leaves e next = both-leave core was now m n stood.0 stood.1 e n (omega (arith, m_by)) left next

  within : core < length between
  within = slice_get_within between core was there

  after-same : (d : Core B) → slice_get after core ≡ Some d → now ≡ d
  after-same d here =
      same_Some now d (sym (get-set_same between core now within) ∙ ap (λ l. slice_get l core) (sym put) ∙ here)

  after-other : (k : ℕ) (d : Core B) → k ≢ core → slice_get after k ≡ Some d → slice_get between k ≡ Some d
  after-other k d other here =
      sym (get-set_other between core k now other) ∙ ap (λ l. slice_get l k) (sym put) ∙ here

  onward-core : (c d : Core B) → slice_get before core ≡ Some c → slice_get after core ≡ Some d
      → Onward core c d n (told ++ new)
  onward-core c d first here =
      let on = so_far.onward core c was first there in
      let same = after-same d here in
      record {
        in_range = on.in_range;
        shaped = on.shaped;
        reached = max on.reached m;
        within = omega (arith, on.within, m_by);
        ran =
            subst (λ (x : Core B). LeftAt c (max on.reached m) x) same
            (both-leave core c was on.reached m on.in_range on.shaped now (max on.reached m) refl on.ran left);
        shows =
            on.shows ∙ ap (λ l. of_core core told ++ l) parts
            ∙ sym (append_assoc (of_core core told) new (shows_to core now n))
            ∙ ap (λ l. (of_core core told ++ l) ++ shows_to core now n) (sym (own-shows core was m))
            ∙ ap (λ l. l ++ shows_to core now n) (sym (of_core-append core told new))
            ∙ ap (λ (x : Core B). of_core core (told ++ new) ++ shows_to core x n) same;
        left = λ e next. on.left e (leaves e (subst (λ (x : Core B). LeftAt x n e) (sym same) next));
      }

  onward-other : (k : ℕ) (c d : Core B) → k ≢ core → slice_get before k ≡ Some c → slice_get after k ≡ Some d
      → Onward k c d n (told ++ new)
  onward-other k c d other first here =
      let on = so_far.onward k c d first (after-other k d other here) in
      record {
        in_range = on.in_range;
        shaped = on.shaped;
        reached = on.reached;
        within = on.within;
        ran = on.ran;
        shows =
            on.shows ∙ ap (λ l. l ++ shows_to k d n)
            (sym (of_core-append k told new ∙ ap (λ l. of_core k told ++ l) (other-shows k core was m other)
            ∙ append-nil (of_core k told)));
        left = on.left;
      }

  -- what is reported now was left before, and starts in time
  new-left : (t : Transfer) → Contains new t → Contains (shows_to core was n) t
  new-left t found = subst (λ l. Contains l t) (sym parts) (Contains-append_left new (shows_to core now n) t found)

  new-late : (t : Transfer) → Contains new t → at ≤ t.stamp
  new-late t found = so_far.late core was there t (new-left t found)

  new-early : (t : Transfer) → Contains new t → t.stamp < to
  new-early t found =
      let live = shown-live core was m t found in
      in_time t found (moves-below was.machine.object stood.0 was.machine.state m stood.1 core t live.1)

  new-rises : Rise new
  new-rises = by was.halted
    where
      by : (h : Option ℕ) → Rise (shown_if h (transfers_of core (trace_to was m)))
      by None = run-rises was.machine.object stood.0 was.machine.state stood.1 m core
      by (Some halt) = tt

  pub joins-on : JoinedSoFar before after (told ++ new) to n
  joins-on = record {
    count = ap length put ∙ length-put between core now ∙ so_far.count;
    onward = λ k c d first here.
        ⊎_elim
        (λ (is : k ≡ core).
        subst (λ j. slice_get before j ≡ Some c → slice_get after j ≡ Some d → Onward j c d n (told ++ new)) (sym is)
        (onward-core c d) first here)
        (λ other. onward-other k c d other first here)
        (cases_eq k core);
    others = λ k past.
        of_core-append k told new
        ∙ ap (λ l. l ++ of_core k new) (so_far.others k past)
        ∙ other-shows k core was m (λ is. omega (arith, within, so_far.count, past, is));
    rises = rise-append told new so_far.rises new-rises (λ t u ct cu. omega (arith, so_far.early t ct, new-late u cu));
    early = λ t found.
        ⊎_elim (λ old. omega (arith, so_far.early t old, le)) (new-early t) (Contains-append_cases told new t found);
    late = λ k d here t found.
        ⊎_elim
        (λ (is : k ≡ core).
        subst (λ j. slice_get after j ≡ Some d → Contains (shows_to j d n) t → to ≤ t.stamp) (sym is)
        (λ there' found'.
        let own = subst (λ (x : Core B). Contains (shows_to core x n) t) (sym (after-same d there')) found' in
        reached t own (left-later core was now m n stood.0 stood.1 left t own))
        here found)
        (λ other.
        let old = after-other k d other here in
        closed k d other old t found (so_far.late k d old t found))
        (cases_eq k core);
  }

-- ---- the whole run

none-at : {X : Type 0} (l : List X) (j : ℕ) → j < length l → slice_get l j ≡ None → ⊥
none-at [] j within is = omega (arith, within)
none-at (x ∷ l) zero within is = none-some x (sym is)
none-at (x ∷ l) (suc j) within is = none-at l j (omega (arith, within)) is

pub core-of : {X : Type 0} (l : List X) (k : ℕ) → k < length l → (x : X) × (slice_get l k ≡ Some x)
core-of {X = X} l k within = found (slice_get l k) refl
  where
    found : (y : Option X) → slice_get l k ≡ y → (x : X) × (slice_get l k ≡ Some x)
    found (Some x) is = (x, is)
    found None is = absurd (none-at l k within is)

-- what is in the traces of cores that haven't halted, is what they show
module _ {B : Type 0} (before : List (Core B)) (n : ℕ) (live : NoneHalted before) where
  trace-at : (k : ℕ) (c : Core B) → slice_get before k ≡ Some c
      → slice_index_or (traces_to before n) k [] ≡ trace_to c n
  trace-at k c there =
      get_or-map (λ (x : Core B). trace_to x n) before k c [] (slice_get_within before k c there)
      ∙ ap (λ (x : Core B). trace_to x n) (get_or_from_slice_get before k c c there)

  trace-count : length (traces_to before n) ≡ length before
  trace-count = length-map before (λ (x : Core B). trace_to x n)

  all-shown : (k : ℕ) (c : Core B) → slice_get before k ≡ Some c → shows_to k c n ≡ transfers_of k (trace_to c n)
  all-shown k c there = ap (λ h. shown_if h (transfers_of k (trace_to c n))) (live k c there)

  pub in-traces : (k : ℕ) (c : Core B) → slice_get before k ≡ Some c → (t : Transfer) → Contains (shows_to k c n) t
      → IsTransferIn (traces_to before n) t
  in-traces k c there t found =
      let shown = shown-as k (trace_to c n) t (subst (λ l. Contains l t) (all-shown k c there) found) in
      record {
        core = omega (arith, shown.core, trace-count, slice_get_within before k c there);
        shown =
            subst (λ j. Contains (slice_index_or (traces_to before n) j []) (seen_at t.stamp t.event)) (sym shown.core)
            (subst (λ l. Contains l (seen_at t.stamp t.event)) (sym (trace-at k c there)) shown.shown);
        no_halt = shown.no_halt;
      }

  pub of-traces : (t : Transfer) → IsTransferIn (traces_to before n) t
      → (c : Core B) × (slice_get before t.core ≡ Some c) × Contains (shows_to t.core c n) t
  of-traces t is =
      let at = core-of before t.core (omega (arith, is.core, trace-count)) in (
        at.0,
        at.1,
        subst (λ l. Contains l t) (sym (all-shown t.core at.0 at.1))
            (has-shown t.core (trace_to at.0 n) t.stamp t.event
            (subst (λ l. Contains l (seen_at t.stamp t.event)) (trace-at t.core at.0 at.1) is.shown) is.no_halt),
      )

-- the transfers of a joined list are those of its cores
pub joined-each : {B : Type 0} (before : List (Core B)) (n : ℕ) (told : List Transfer) → NoneHalted before
    → ((k : ℕ) (c : Core B) → slice_get before k ≡ Some c → of_core k told ≡ shows_to k c n)
    → ((k : ℕ) → length before ≤ k → of_core k told ≡ []) → Rise told → IsJoined (traces_to before n) told
joined-each {B = B} before n told live each none rises = record {
  rises = rises;
  each = λ t. (to t, from t);
}
  where
    to : (t : Transfer) → Contains told t → IsTransferIn (traces_to before n) t
    to t found =
        let own = of_core-has told t found in
        ⊎_elim
        (λ less.
        let at = core-of before t.core less in
        in-traces before n live t.core at.0 at.1 t (subst (λ l. Contains l t) (each t.core at.0 at.1) own))
        (λ past. absurd (in-none t (subst (λ l. Contains l t) (none t.core past) own)))
        (cases_lt t.core (length before))

    from : (t : Transfer) → IsTransferIn (traces_to before n) t → Contains told t
    from t is =
        let at = of-traces before n live t is in
        (of_core-in t.core told t (subst (λ l. Contains l t) (sym (each t.core at.0 at.1)) at.2)).0

-- nothing is left to be shown
pub joined-all : {B : Type 0} (before now : List (Core B)) (told : List Transfer) (at n : ℕ)
    → NoneHalted before → JoinedSoFar before now told at n
    → ((k : ℕ) (d : Core B) → slice_get now k ≡ Some d → shows_to k d n ≡ [])
    → ((k : ℕ) (c : Core B) → slice_get before k ≡ Some c → (d : Core B) × (slice_get now k ≡ Some d))
    → IsJoined (traces_to before n) told
joined-all before now told at n live so_far none there =
    joined-each before n told live
    (λ k c first.
    let here = there k c first in
    let on = so_far.onward k c here.0 first here.1 in
    sym (on.shows ∙ ap (λ l. of_core k told ++ l) (none k here.0 here.1) ∙ append-nil (of_core k told)))
    so_far.others so_far.rises
