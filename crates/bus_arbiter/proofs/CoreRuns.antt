-- One core's runs, in sequence.
use Rattle.std.proofs.Common.{◌≡◌, ℕ, ◌≤◌, max, List, [], ◌++◌, Option, Some, None, refl, sym, ap, ◌∙◌, subst, ⊎_elim, arith}
use Rattle.std.proofs.lemmas.List.{append-nil}
use Rattle.std.proofs.lemmas.List.Elements.{Contains-append_right}
use Rattle.std.proofs.lemmas.Bool.{cases_lt}
use Rattle.lt_isa.specs.Prelude.{Parts, IsInRange, State, Halted, IsShaped, Faults, step, trace_from, final_from, seen_at, HaltsAt}
use Rattle.lt_isa.proofs.Runs.{trace_from-past, trace_from-faults, final_from-past, final_from-faults}
use Rattle.lt_isa.proofs.Ends.{spent-from_no_halt, trace_halted, final_halted, final_shaped}
use Rattle.processor.specs.Prelude.{EndsAs, RunsJoin}
use Rattle.processor.proofs.Joining.{runs_join}
use Rattle.bus_arbiter.specs.Prelude.{Core, LeftAt, LeftIf, OnItsWay, OnItsWayIf, RanTo, StoppedBy, end_as, shown_if, shows_to, trace_to, Transfer, transfers_of}
use Rattle.bus_arbiter.proofs.TransferLists.{in-none, transfers_of-append}
use Rattle.processor.specs.declared.ends.End.TheVariants as end

-- a run up to cycle 0 shows nothing and changes nothing
pub nothing-shown : {B : Type 0} (k : ℕ) (c : Core B) → shows_to k c 0 ≡ []
nothing-shown k c = by c.halted
  where
    by : (h : Option ℕ) → shown_if h (transfers_of k (trace_to c 0)) ≡ []
    by None = ap (transfers_of k) (trace_from-past c.machine.object c.machine.state 0 (omega arith))
    by (Some at) = refl

pub stays-at : {B : Type 0} (c : Core B) → LeftAt c 0 c
stays-at {B = B} c = by c.halted refl
  where
    by : (h : Option ℕ) → c.halted ≡ h → LeftIf h c 0 c
    by None is = record {
      object = refl;
      state = sym (final_from-past c.machine.object c.machine.state 0 (omega arith));
      ends =
          subst (λ h. EndsAs (trace_to c 0) (end_as h)) (sym is)
          (λ at halts. in-none _ (subst (λ events. HaltsAt events at)
          (trace_from-past c.machine.object c.machine.state 0 (omega arith)) halts));
    }
    by (Some at) is = refl

-- a run that was spent at cycle m shows nothing more up to an earlier cycle, and changes nothing
module _ (o : Parts) (range : IsInRange o) (s : State) (shaped : IsShaped o s) (m n : ℕ) (le : n ≤ m)
    (spent : EndsAs (trace_from o s m) end.Spent) where
  rests : (trace_from o (final_from o s m) n ≡ []) × (final_from o (final_from o s m) n ≡ final_from o s m)
  rests =
      let t = final_from o s m in
      let fits = final_shaped o range s shaped m in
      ⊎_elim
      (λ past. (
        trace_from-past o t n (omega (arith, past, le)),
        final_from-past o t n (omega (arith, past, le)),
      ))
      (λ (faults : step o t ≡ Faults). (
        trace_from-faults o range t n fits faults,
        final_from-faults o range t n fits faults,
      ))
      (spent-from_no_halt o range s shaped m spent).ended

  pub rests-trace : trace_from o (final_from o s m) n ≡ []
  rests-trace = rests.0

  pub rests-state : final_from o (final_from o s m) n ≡ final_from o s m
  rests-state = rests.1

-- A run up to cycle m and then one up to cycle n show what a run up to the later of the two shows, and leave what it
-- leaves.
module _ {B : Type 0} (k : ℕ) (c d : Core B) (m n : ℕ) (range : IsInRange c.machine.object)
    (shaped : IsShaped c.machine.object c.machine.state) where
  abbrev o : Parts
  o = c.machine.object

  abbrev s : State
  s = c.machine.state

  none-shown : (at : ℕ) → c.halted ≡ Some at → (l : List Transfer) → shown_if c.halted l ≡ []
  none-shown at is l = ap (λ h. shown_if h l) is

  all-shown : c.halted ≡ None → (l : List Transfer) → shown_if c.halted l ≡ l
  all-shown is l = ap (λ h. shown_if h l) is

  still : (at : ℕ) → c.halted ≡ Some at → LeftAt c m d → d ≡ c
  still at is first = subst (λ h. LeftIf h c m d) is first

  first-halts : (at : ℕ) → d.halted ≡ Some at → RanTo c m d → HaltsAt (trace_from o s m) at
  first-halts at is first = (subst (λ h. EndsAs (trace_to c m) (end_as h)) is first.ends).0

  first-spent : d.halted ≡ None → RanTo c m d → EndsAs (trace_from o s m) end.Spent
  first-spent is first = subst (λ h. EndsAs (trace_to c m) (end_as h)) is first.ends

  -- the second run's trace
  second-trace : RanTo c m d → trace_to d n ≡ trace_from o (final_from o s m) n
  second-trace first =
      ap (λ p. trace_from p d.machine.state n) first.object ∙ ap (λ t. trace_from o t n) first.state

  second-state : RanTo c m d → final_from d.machine.object d.machine.state n ≡ final_from o (final_from o s m) n
  second-state first =
      ap (λ p. final_from p d.machine.state n) first.object ∙ ap (λ t. final_from o t n) first.state

  -- ---- what is shown

  shows-still : (at : ℕ) → c.halted ≡ Some at → (to : ℕ) → LeftAt c m d
      → shows_to k c to ≡ shows_to k c m ++ shows_to k d n
  shows-still at is to first =
      none-shown at is (transfers_of k (trace_to c to))
      ∙ sym (none-shown at is (transfers_of k (trace_to c n)))
      ∙ sym (ap (λ (x : Core B). shows_to k x n) (still at is first))
      ∙ sym (ap (λ l. l ++ shows_to k d n) (none-shown at is (transfers_of k (trace_to c m))))

  shows-halted : (at : ℕ) → c.halted ≡ None → d.halted ≡ Some at → (to : ℕ) → m ≤ to → RanTo c m d
      → shows_to k c to ≡ shows_to k c m ++ shows_to k d n
  shows-halted at live is to le first =
      all-shown live (transfers_of k (trace_to c to))
      ∙ ap (transfers_of k) (trace_halted o range s shaped m to at le (first-halts at is first))
      ∙ sym (all-shown live (transfers_of k (trace_to c m)))
      ∙ sym (append-nil (shows_to k c m))
      ∙ sym (ap (λ h. shows_to k c m ++ shown_if h (transfers_of k (trace_to d n))) is)

  -- what is shown where both run
  shows-parts : c.halted ≡ None → d.halted ≡ None → RanTo c m d
      → shows_to k c m ++ shows_to k d n
      ≡ transfers_of k (trace_from o s m) ++ transfers_of k (trace_from o (final_from o s m) n)
  shows-parts live on first =
      ap (λ l. l ++ shows_to k d n) (all-shown live (transfers_of k (trace_to c m)))
      ∙ ap (λ h. transfers_of k (trace_to c m) ++ shown_if h (transfers_of k (trace_to d n))) on
      ∙ ap (λ l. transfers_of k (trace_to c m) ++ transfers_of k l) (second-trace first)

  shows-later : c.halted ≡ None → d.halted ≡ None → m ≤ n → RanTo c m d
      → shows_to k c n ≡ shows_to k c m ++ shows_to k d n
  shows-later live on le first =
      let joins : RunsJoin o s m n = runs_join o range s shaped m n le (first-spent on first) in
      all-shown live (transfers_of k (trace_to c n))
      ∙ ap (transfers_of k) joins.events
      ∙ transfers_of-append k (trace_from o s m) (trace_from o (final_from o s m) n)
      ∙ sym (shows-parts live on first)

  shows-earlier : c.halted ≡ None → d.halted ≡ None → n ≤ m → RanTo c m d
      → shows_to k c m ≡ shows_to k c m ++ shows_to k d n
  shows-earlier live on le first =
      all-shown live (transfers_of k (trace_to c m))
      ∙ sym (append-nil (transfers_of k (trace_to c m)))
      ∙ sym (ap (λ l. transfers_of k (trace_to c m) ++ transfers_of k l)
      (rests-trace o range s shaped m n le (first-spent on first)))
      ∙ sym (shows-parts live on first)

  pub both-show : (to : ℕ) → to ≡ max m n → LeftAt c m d → shows_to k c to ≡ shows_to k c m ++ shows_to k d n
  both-show to is first = by c.halted d.halted refl refl
    where
      by : (h g : Option ℕ) → c.halted ≡ h → d.halted ≡ g → shows_to k c to ≡ shows_to k c m ++ shows_to k d n
      by (Some at) g live on = shows-still at live to first
      by None (Some at) live on =
          shows-halted at live on to (omega (arith, is)) (subst (λ h. LeftIf h c m d) live first)
      by None None live on =
          let one = subst (λ h. LeftIf h c m d) live first in
          ⊎_elim
          (λ less. subst (λ x. shows_to k c x ≡ shows_to k c m ++ shows_to k d n) (omega (arith, is, less))
          (shows-later live on (omega (arith, less)) one))
          (λ past. subst (λ x. shows_to k c x ≡ shows_to k c m ++ shows_to k d n) (omega (arith, is, past))
          (shows-earlier live on past one))
          (cases_lt m n)

  -- ---- what is left

  module _ (e : Core B) where
    left-halted : (at : ℕ) → d.halted ≡ Some at → (to : ℕ) → m ≤ to → RanTo c m d → LeftAt d n e → RanTo c to e
    left-halted at is to le first second =
        let last : e ≡ d = subst (λ h. LeftIf h d n e) is second in
        let halts = first-halts at is first in
        record {
          object = ap (λ (x : Core B). x.machine.object) last ∙ first.object;
          state =
              ap (λ (x : Core B). x.machine.state) last ∙ first.state
              ∙ sym (final_halted o range s shaped m to at le halts);
          ends =
              subst (λ events. EndsAs events (end_as e.halted))
              (sym (trace_halted o range s shaped m to at le halts))
              (subst (λ (x : Core B). EndsAs (trace_to c m) (end_as x.halted)) (sym last) first.ends);
        }

    left-later : d.halted ≡ None → m ≤ n → RanTo c m d → RanTo d n e → RanTo c n e
    left-later on le first second =
        let joins : RunsJoin o s m n = runs_join o range s shaped m n le (first-spent on first) in
        record {
          object = second.object ∙ first.object;
          state = second.state ∙ second-state first ∙ sym joins.state;
          ends =
              joins.ends (end_as e.halted)
              (subst (λ events. EndsAs events (end_as e.halted)) (second-trace first) second.ends);
        }

    left-earlier : d.halted ≡ None → n ≤ m → RanTo c m d → RanTo d n e → RanTo c m e
    left-earlier on le first second =
        let spent = first-spent on first in
        record {
          object = second.object ∙ first.object;
          state = second.state ∙ second-state first ∙ rests-state o range s shaped m n le spent;
          ends =
              ends-still e.halted
              (subst (λ events. EndsAs events (end_as e.halted))
              (second-trace first ∙ rests-trace o range s shaped m n le spent) second.ends) spent;
        }
      where
        ends-still : (h : Option ℕ) → EndsAs [] (end_as h) → EndsAs (trace_from o s m) end.Spent
            → EndsAs (trace_to c m) (end_as h)
        ends-still None none spent = spent
        ends-still (Some at) halts spent = absurd (in-none _ halts.0)

    pub both-leave : (to : ℕ) → to ≡ max m n → LeftAt c m d → LeftAt d n e → LeftAt c to e
    both-leave to is first second = by c.halted d.halted refl refl
      where
        by : (h g : Option ℕ) → c.halted ≡ h → d.halted ≡ g → LeftAt c to e
        by (Some at) g live on =
            let same = still at live first in
            subst (λ h. LeftIf h c to e) (sym live)
            (subst (λ h. LeftIf h c n e) live (subst (λ (x : Core B). LeftAt x n e) same second))
        by None (Some at) live on =
            subst (λ h. LeftIf h c to e) (sym live)
            (left-halted at on to (omega (arith, is)) (subst (λ h. LeftIf h c m d) live first) second)
        by None None live on =
            let one = subst (λ h. LeftIf h c m d) live first in
            let two = subst (λ h. LeftIf h d n e) on second in
            subst (λ h. LeftIf h c to e) (sym live)
            (⊎_elim
            (λ less. subst (λ x. RanTo c x e) (omega (arith, is, less)) (left-later on (omega (arith, less)) one two))
            (λ past. subst (λ x. RanTo c x e) (omega (arith, is, past)) (left-earlier on past one two))
            (cases_lt m n))

-- ---- where a watcher stops it

-- a core that has run up to a cycle is on its way to a later one
pub left-way : {B : Type 0} (c d : Core B) (m to : ℕ) → m ≤ to → LeftAt c m d → OnItsWay c to d
left-way {B = B} c d m to le left = by c.halted refl
  where
    by : (h : Option ℕ) → c.halted ≡ h → OnItsWayIf h c to d
    by None is =
        let ran : RanTo c m d = subst (λ h. LeftIf h c m d) is left in
        record {
          object = ran.object;
          at = m;
          within = le;
          state = ran.state;
          halts = λ stamp halted. (subst (λ h. EndsAs (trace_to c m) (end_as h)) halted ran.ends).0;
        }
    by (Some at) is = subst (λ h. LeftIf h c m d) is left

-- A run up to cycle m, and then one that is stopped on its way to cycle n: both are stopped on the way to a later one.
module _ {B : Type 0} (c d e : Core B) (m n to : ℕ) (range : IsInRange c.machine.object)
    (shaped : IsShaped c.machine.object c.machine.state) (m_by : m ≤ to) (n_by : n ≤ to) where
  way-halted : (at : ℕ) → d.halted ≡ Some at → RanTo c m d → e ≡ d → StoppedBy c to e
  way-halted at is first last = record {
    object = ap (λ (x : Core B). x.machine.object) last ∙ first.object;
    at = m;
    within = m_by;
    state = ap (λ (x : Core B). x.machine.state) last ∙ first.state;
    halts = λ stamp halted.
        first-halts 0 c d m n range shaped stamp (sym (ap (λ (x : Core B). x.halted) last) ∙ halted) first;
  }

  -- the second run continues from where the first was spent
  way-on : d.halted ≡ None → RanTo c m d → StoppedBy d n e → StoppedBy c to e
  way-on on first second =
      ⊎_elim
      (λ less.
      let joins : RunsJoin c.machine.object c.machine.state m second.at =
      runs_join c.machine.object range c.machine.state shaped m second.at (omega (arith, less)) spent in
      record {
        object = second.object ∙ first.object;
        at = second.at;
        within = omega (arith, second.within, n_by);
        state = second.state ∙ second-state 0 c d m second.at range shaped first ∙ sym joins.state;
        halts = λ stamp halted.
            subst (λ events. HaltsAt events stamp) (sym joins.events)
            (Contains-append_right (trace_to c m)
            (trace_from c.machine.object (final_from c.machine.object c.machine.state m) second.at)
            (seen_at stamp Halted)
            (subst (λ events. HaltsAt events stamp) (second-trace 0 c d m second.at range shaped first)
            (second.halts stamp halted)));
      })
      (λ past. record {
        object = second.object ∙ first.object;
        at = m;
        within = m_by;
        state =
            second.state ∙ second-state 0 c d m second.at range shaped first
            ∙ rests-state c.machine.object range c.machine.state shaped m second.at past spent;
        halts = λ stamp halted.
            absurd (in-none _ (subst (λ events. HaltsAt events stamp)
            (second-trace 0 c d m second.at range shaped first
            ∙ rests-trace c.machine.object range c.machine.state shaped m second.at past spent)
            (second.halts stamp halted)));
      })
      (cases_lt m second.at)
    where
      spent : EndsAs (trace_to c m) end.Spent
      spent = first-spent 0 c d m second.at range shaped on first

  pub both-way : LeftAt c m d → OnItsWay d n e → OnItsWay c to e
  both-way first second = by c.halted d.halted refl refl
    where
      by : (h g : Option ℕ) → c.halted ≡ h → d.halted ≡ g → OnItsWayIf h c to e
      by (Some at) g live on =
          let same : d ≡ c = subst (λ h. LeftIf h c m d) live first in
          let still : OnItsWay c n e = subst (λ (x : Core B). OnItsWay x n e) same second in
          subst (λ h. OnItsWayIf h c n e) live still
      by None (Some at) live on =
          way-halted at on (subst (λ h. LeftIf h c m d) live first) (subst (λ h. OnItsWayIf h d n e) on second)
      by None None live on =
          way-on on (subst (λ h. LeftIf h c m d) live first) (subst (λ h. OnItsWayIf h d n e) on second)
