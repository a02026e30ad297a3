-- The refusals that the check finds place by place are those of the relations, and an object is accepted exactly if the
-- check finds none.
use Rattle.std.proofs.Common.{◌≡◌, ℕ, zero, suc, ◌+◌, ◌-◌, ◌<◌, ◌≤◌, Bool, true, false, MatchBool, ℤ, length, ◌⊎◌, inl, inr, Option, Some, None, Result, Ok, Err, refl, sym, ap, ◌∙◌, subst, ⊎_elim, arith}
use Rattle.std.specs.Prelude.{if◌then◌else◌}
use Rattle.std.proofs.lemmas.Option.{slice_get_past}
use Rattle.std.proofs.lemmas.Bool.{cases_lt, eq-eqb, false_from_ne_true, true≢false}
use Rattle.lt_isa.specs.Prelude.{Parts}
use Rattle.trace_patterns.specs.declared.reasons.Reason.{Reason}
use Rattle.trace_patterns.specs.declared.reasons.Reason.TheVariants.{NoNote, NoteTooLow, RunsOffEnd, SecretSymbolInRam}
use Rattle.trace_patterns.specs.Prelude.{Known, fits, FitsClaim, at_entry, Ruling, claimed_at, ruling_at, VisitedAt, Noted, Unnoted, ComesTo, IsVisited, LiesInside, FitsNote, Accepts, RegionIsCrossed, RefusedAt, Missed, Unfit, ByRule, OffEnd, InRegion, IsLowestRefusal, FirstRefusal, has_secret_in_ram}
use Rattle.trace_patterns.proofs.Notes.{fits-claim}
use Rattle.region_walk.specs.Prelude.{Crossing, Crosses, Blocked}
use Rattle.region_walk.proofs.WalkRelations.{CrossingIs, crossing-is, crosses-crossing, blocked-crossing}
use Rattle.lt_checker.specs.Prelude.{Effect, Refused, Falls, Leaves, Joins, Stuck, joined_at, crossing_at, effect_of, effect_at, entered, on_entry, Arrival, Unreached, Here, Inside, effect_from, reached_at, refusal_in, refusal_at, NoneBelow, IsFirstFound}
use Rattle.lt_checker.proofs.PlaceRelations.{EffectIs, effect-is, effect-ruled, here-comes, inside-lies, lies-inside, FitsHere, no_refusal, fits-here, comes-here, visited-known, lies-reached}
use Rattle.trace_patterns.specs.Rules as rule

-- if what reaches a place fits its note in the relations, it passes the test
pub fits_tested : (o : Parts) (p : ℕ) → FitsNote o p → FitsHere o p
fits_tested o p fitting k claimed here at =
    (fits-claim o p k claimed at).1 (fitting k claimed (here-comes o p k here) at)

fits_noted : (o : Parts) (p : ℕ) → NoneBelow o p → p < length o.code → FitsHere o p → FitsNote o p
fits_noted o p none inside fit k claimed comes at =
    (fits-claim o p k claimed at).0 (fit k claimed (comes-here o p k comes none inside) at)

-- a place that something reaches is visited
comes_visited : (o : Parts) (p : ℕ) (k : Known) (claimed : Option Known) → claimed_at o p ≡ claimed → ComesTo o p k
    → IsVisited o p
comes_visited o p k None at comes = (k, Unnoted p k at comes)
comes_visited o p k (Some c) at comes = (c, Noted p c at)

-- the ruling outside the code falls through to no place
ruled_outside : (o : Parts) (p : ℕ) (k : Known) → length o.code ≤ p → ruling_at o p k ≡ rule.Leaves
unfolding ruling_at
ruled_outside o p k le = ap (rule.ruling_if o p k) (slice_get_past o.code p le)

ruled_inside : (o : Parts) (p : ℕ) (k : Known) (r : Ruling) → ruling_at o p k ≡ r → ¬ (r ≡ rule.Leaves)
    → p < length o.code
ruled_inside o p k r is stays =
    ⊎_elim
    (λ (lt : p < length o.code). lt)
    (λ (le : length o.code ≤ p). absurd (stays (sym is ∙ ruled_outside o p k le)))
    (cases_lt p (length o.code))

-- each refusal of the relations is found, as long as no place before is refused
module _ (o : Parts) (p : ℕ) (none : NoneBelow o p) (inside : p < length o.code) where
  known_refusal : (k : Known) (r : Ruling) → FitsNote o p → VisitedAt o p k → ruling_at o p k ≡ r
      → refusal_at o p ≡ refusal_in p (effect_of o p k r)
  known_refusal k r fitting visited is =
      ap (refusal_in p) (visited-known o p k visited none (fits_tested o p fitting) inside ∙ effect-ruled o p k r is)

  missed : ¬ IsVisited o p → ¬ LiesInside o p → (a : Arrival) (claimed : Option Known) → reached_at o p ≡ a
      → claimed_at o p ≡ claimed → refusal_in p (effect_from o p a) ≡ Some (p, NoNote)
  unfolding effect_from
  missed unvisited apart Unreached None here at =
      ap (λ (c : Option Known). refusal_in p (on_entry (entered c None) (effect_at o p))) at
  missed unvisited apart Unreached (Some c) here at = absurd (unvisited (c, Noted p c at))
  missed unvisited apart (Here k) claimed here at =
      absurd (unvisited (comes_visited o p k claimed at (here-comes o p k here)))
  missed unvisited apart (Inside join k) claimed here at =
      absurd (apart (lies-inside o p join k (inside-lies o p join k here)))

  unfit : (k claimed : Known) → ComesTo o p k → claimed_at o p ≡ Some claimed → ¬ FitsClaim k claimed
      → refusal_at o p ≡ Some (p, NoteTooLow)
  unfolding effect_from
  unfit k claimed comes at apart =
      let fails : fits k claimed ≡ false = false_from_ne_true (fits k claimed)
      (λ fit. apart ((fits-claim o p k claimed at).0 fit)) in
      ap (λ (a : Arrival). refusal_in p (effect_from o p a)) (comes-here o p k comes none inside)
      ∙ ap (λ (c : Option Known). refusal_in p (on_entry (entered c (Some k)) (effect_at o p))) at
      ∙ ap (λ (b : Bool). let r : Result Known Reason = if b then Ok claimed else Err NoteTooLow in refusal_in p
      (on_entry r (effect_at o p))) fails

  pub refused-found : (place : ℕ) (reason : Reason) → RefusedAt o p place reason → refusal_at o p ≡ Some (place, reason)
  refused-found place reason (Missed q unvisited apart) =
      missed unvisited apart (reached_at o p) (claimed_at o p) refl refl
  refused-found place reason (Unfit q k claimed comes at apart) = unfit k claimed comes at apart
  refused-found place reason (ByRule q k r fitting visited is) =
      known_refusal k (rule.Refused reason) fitting visited is
  refused-found place reason (OffEnd q k next fitting visited is last) =
      known_refusal k (rule.Falls next) fitting visited is
      ∙ ap (λ (b : Bool). refusal_in p (let e : Effect = if b then Refused RunsOffEnd else Falls next in e))
      (eq-eqb (p + 1) (length o.code) last)
  refused-found place reason (InRegion q k offset at r fitting visited is blocked) =
      known_refusal k (rule.Opens offset) fitting visited is
      ∙ ap (λ (c : Crossing). refusal_in p (joined_at c))
      (blocked-crossing o 0 (length o.code - 1) p offset (at_entry k) place reason blocked)

  -- each refusal that is found is a refusal of the relations
  abbrev RefusalIs : Option (ℕ × Reason) → Type 0
  RefusalIs None = Unit {0}
  RefusalIs (Some r) = RefusedAt o p r.0 r.1

  by_ruling : (k : Known) (reason : Reason) → FitsNote o p → VisitedAt o p k → EffectIs o p k (Refused reason)
      → RefusedAt o p p reason
  by_ruling k reason fitting visited h =
      ⊎_elim
      (λ (is : ruling_at o p k ≡ rule.Refused reason). ByRule p k reason fitting visited is)
      (λ (end : (next : Known) × (ruling_at o p k ≡ rule.Falls next) × (p + 1 ≡ length o.code) × (reason ≡ RunsOffEnd)).
      subst (RefusedAt o p p) (sym end.3) (OffEnd p k end.0 fitting visited end.1 end.2))
      h

  effect_refusal : (k : Known) (e : Effect) → FitsNote o p → VisitedAt o p k → EffectIs o p k e
      → RefusalIs (refusal_in p e)
  effect_refusal k (Refused reason) fitting visited h = by_ruling k reason fitting visited h
  effect_refusal k (Stuck place reason) fitting visited h = InRegion p k h.0 place reason fitting visited h.1 h.2
  effect_refusal k other fitting visited h = tt

  at_known : (k : Known) → FitsNote o p → VisitedAt o p k → RefusalIs (refusal_in p (effect_at o p k))
  at_known k fitting visited = effect_refusal k (effect_at o p k) fitting visited (effect-is o p k)

  -- if a place isn't reached in the computation, nothing reaches it in the relations
  nothing_comes : reached_at o p ≡ Unreached → (k : Known) → ¬ ComesTo o p k
  nothing_comes here k comes =
      let e : ◌≡◌ {A = Arrival} Unreached (Here k) = sym here ∙ comes-here o p k comes none inside in absurd cc

  not_visited : reached_at o p ≡ Unreached → claimed_at o p ≡ None → (k : Known) → ¬ VisitedAt o p k
  not_visited here at k (Noted q claimed is) = absurd (let f : ◌≡◌ {A = Option Known} None (Some k) = sym at ∙ is in cc)
  not_visited here at k (Unnoted q known is comes) = nothing_comes here k comes

  not_inside : reached_at o p ≡ Unreached → ¬ LiesInside o p
  not_inside here h =
      let e : ◌≡◌ {A = Arrival} Unreached (Inside h.join _) = sym here ∙ lies-reached o p h none inside in absurd cc

  without_note : claimed_at o p ≡ None → FitsNote o p
  without_note at k claimed comes is = absurd (let f : ◌≡◌ {A = Option Known} None (Some claimed) = sym at ∙ is in cc)

  noted_if : (k claimed : Known) (fit : Bool) → reached_at o p ≡ Here k → claimed_at o p ≡ Some claimed
      → fits k claimed ≡ fit
      → RefusalIs (refusal_in p (on_entry (if fit then Ok claimed else Err NoteTooLow) (effect_at o p)))
  noted_if k claimed true here at is = at_known claimed (fits_noted o p none inside fit) (Noted p claimed at)
    where
      fit : FitsHere o p
      fit k' claimed' here' at' =
          let first : ◌≡◌ {A = Arrival} (Here k) (Here k') = sym here ∙ here' in
          let second : ◌≡◌ {A = Option Known} (Some claimed) (Some claimed') = sym at ∙ at' in
          let known : k ≡ k' = cc in
          let claims : claimed ≡ claimed' = cc in
          subst (λ (x : Known). fits x claimed' ≡ true) known (subst (λ (x : Known). fits k x ≡ true) claims is)
  noted_if k claimed false here at is =
      Unfit p k claimed (here-comes o p k here) at (λ fit. true≢false (sym ((fits-claim o p k claimed at).1 fit) ∙ is))

  found_by : (a : Arrival) (claimed : Option Known) → reached_at o p ≡ a → claimed_at o p ≡ claimed
      → RefusalIs (refusal_in p (effect_from o p a))
  unfolding effect_from
  found_by Unreached None here at =
      subst (λ (c : Option Known). RefusalIs (refusal_in p (on_entry (entered c None) (effect_at o p)))) (sym at)
      (Missed p (λ visited. not_visited here at visited.0 visited.1) (not_inside here))
  found_by Unreached (Some c) here at =
      subst (λ (x : Option Known). RefusalIs (refusal_in p (on_entry (entered x None) (effect_at o p)))) (sym at)
      (at_known c (λ k claimed comes is. absurd (nothing_comes here k comes)) (Noted p c at))
  found_by (Here k) None here at =
      subst (λ (x : Option Known). RefusalIs (refusal_in p (on_entry (entered x (Some k)) (effect_at o p)))) (sym at)
      (at_known k (without_note at) (Unnoted p k at (here-comes o p k here)))
  found_by (Here k) (Some c) here at =
      subst (λ (x : Option Known). RefusalIs (refusal_in p (on_entry (entered x (Some k)) (effect_at o p)))) (sym at)
      (noted_if k c (fits k c) here at refl)
  found_by (Inside join k) claimed here at = tt

  pub found-refused : (place : ℕ) (reason : Reason) → refusal_at o p ≡ Some (place, reason) → RefusedAt o p place reason
  found-refused place reason e = subst RefusalIs e (found_by (reached_at o p) (claimed_at o p) refl refl)

-- an accepted object has no refusal in the relations
pub accepted-not_refused : (o : Parts) → Accepts o → (p place : ℕ) (reason : Reason) → p < length o.code
    → ¬ RefusedAt o p place reason
accepted-not_refused o accepts p place reason inside (Missed q unvisited apart) =
    ⊎_elim unvisited apart (accepts.covered p inside)
accepted-not_refused o accepts p place reason inside (Unfit q k claimed comes at apart) =
    apart (accepts.fitting p inside k claimed comes at)
accepted-not_refused o accepts p place reason inside (ByRule q k r fitting visited is) =
    accepts.allowed p k reason visited is
accepted-not_refused o accepts p place reason inside (OffEnd q k next fitting visited is last) =
    absurd (omega (arith, accepts.followed p k next visited is))
accepted-not_refused o accepts p place reason inside (InRegion q k offset at r fitting visited is blocked) =
    let by = accepts.crossed p k offset visited is in
    absurd (let e : ◌≡◌ {A = Crossing} (Crosses by.0 by.1 by.2) (Blocked place reason) = sym
    (crosses-crossing o 0 (length o.code - 1) p offset (at_entry k) by.0 by.1 by.2 by.3)
    ∙ blocked-crossing o 0 (length o.code - 1) p offset (at_entry k) place reason blocked in cc)

-- if the relations refuse nothing at a place, no refusal is found there
none_if : (o : Parts) (p : ℕ) → NoneBelow o p → p < length o.code
    → ((place : ℕ) (reason : Reason) → ¬ RefusedAt o p place reason) → refusal_at o p ≡ None
none_if o p none inside apart = by (refusal_at o p) refl
  where
    by : (r : Option (ℕ × Reason)) → refusal_at o p ≡ r → r ≡ None
    by None e = refl
    by (Some r) e = absurd (apart r.0 r.1 (found-refused o p none inside r.0 r.1 e))

-- if the relations refuse nothing at some places, no refusal is found there
pub none_up_to : (o : Parts) (n : ℕ) → n ≤ length o.code
    → ((p place : ℕ) (reason : Reason) → p < n → ¬ RefusedAt o p place reason) → NoneBelow o n
none_up_to o zero le apart = λ q lt. absurd (omega arith)
none_up_to o (suc n) le apart =
    let before = none_up_to o n (omega arith) (λ p place reason lt. apart p place reason (omega arith)) in
    λ q lt.
    ⊎_elim
    (λ (low : q < n). before q low)
    (λ (high : n ≤ q).
    let same : n ≡ q = omega arith in
    subst (λ (r : ℕ). refusal_at o r ≡ None) same
    (none_if o n before (omega arith) (λ place reason. apart n place reason (omega arith))))
    (cases_lt q n)

-- the check finds no refusal in an accepted object
pub accepts-none : (o : Parts) → Accepts o → NoneBelow o (length o.code)
accepts-none o accepts =
    none_up_to o (length o.code) (omega arith) (λ p place reason lt. accepted-not_refused o accepts p place reason lt)

-- an object in which the check finds no refusal
module _ (o : Parts) (none : NoneBelow o (length o.code)) where
  below : (p : ℕ) → p < length o.code → NoneBelow o p
  below p inside = λ q lt. none q (omega arith)

  not_refused : (p place : ℕ) (reason : Reason) → p < length o.code → ¬ RefusedAt o p place reason
  not_refused p place reason inside h =
      no_refusal o p (place, reason) (sym (refused-found o p (below p inside) inside place reason h) ∙ none p inside)

  fitting : (p : ℕ) → p < length o.code → FitsNote o p
  fitting p inside = fits_noted o p (below p inside) inside (fits-here o p (none p inside))

  covered_by : (p : ℕ) → p < length o.code → (a : Arrival) (claimed : Option Known) → reached_at o p ≡ a
      → claimed_at o p ≡ claimed → IsVisited o p ⊎ LiesInside o p
  covered_by p inside Unreached (Some c) here at = inl (c, Noted p c at)
  covered_by p inside Unreached None here at =
      absurd (not_refused p p NoNote inside
      (Missed p (λ visited. not_visited o p (below p inside) inside here at visited.0 visited.1)
      (not_inside o p (below p inside) inside here)))
  covered_by p inside (Here k) claimed here at = inl (comes_visited o p k claimed at (here-comes o p k here))
  covered_by p inside (Inside join k) claimed here at = inr (lies-inside o p join k (inside-lies o p join k here))

  region_crossed : (p : ℕ) (k : Known) (offset : ℤ) (c : Crossing) → p < length o.code → VisitedAt o p k
      → ruling_at o p k ≡ rule.Opens offset → CrossingIs o 0 (length o.code - 1) p offset (at_entry k) c
      → RegionIsCrossed o p offset k
  region_crossed p k offset (Crosses pattern join state) inside visited is h = (pattern, join, state, h.0)
  region_crossed p k offset (Blocked place reason) inside visited is h =
      absurd (not_refused p place reason inside (InRegion p k offset place reason (fitting p inside) visited is h))

  -- such an object is accepted if no secret variable is in plain memory
  pub none_is_accepted : has_secret_in_ram o ≡ false → Accepts o
  none_is_accepted symbols = record {
    symbols = symbols;
    covered = λ p inside. covered_by p inside (reached_at o p) (claimed_at o p) refl refl;
    fitting = fitting;
    allowed = λ p k reason visited is.
        let inside = ruled_inside o p k (rule.Refused reason) is (λ e. absurd cc) in
        not_refused p p reason inside (ByRule p k reason (fitting p inside) visited is);
    followed = λ p k next visited is.
        let inside = ruled_inside o p k (rule.Falls next) is (λ e. absurd cc) in
        ⊎_elim
        (λ (lt : p + 1 < length o.code). lt)
        (λ (le : length o.code ≤ p + 1). absurd
        (not_refused p p RunsOffEnd inside (OffEnd p k next (fitting p inside) visited is (omega arith))))
        (cases_lt (p + 1) (length o.code));
    crossed = λ p k offset visited is.
        let inside = ruled_inside o p k (rule.Opens offset) is (λ e. absurd cc) in
        region_crossed p k offset (crossing_at o p offset k) inside visited is
        (crossing-is o 0 (length o.code - 1) p offset (at_entry k) (omega arith));
  }

-- the refusal that is found first is the lowest of the relations
pub found-lowest : (o : Parts) (place : ℕ) (reason : Reason) → IsFirstFound o place reason
    → IsLowestRefusal o place reason
found-lowest o place reason h = record {
  at = h.at;
  inside = h.inside;
  refused = found-refused o h.at h.none_below h.inside place reason h.refused;
  none_below = λ q other why lt refused.
      let inside = h.inside in
      no_refusal o q (other, why)
      (sym (refused-found o q (λ r less. h.none_below r (omega arith)) (omega arith) other why refused)
      ∙ h.none_below q lt);
}

-- the lowest refusal of the relations is found first
pub lowest-found : (o : Parts) (place : ℕ) (reason : Reason) → IsLowestRefusal o place reason
    → IsFirstFound o place reason
lowest-found o place reason h =
    let inside = h.inside in
    let none = none_up_to o h.at (omega arith) (λ q other why lt. h.none_below q other why lt) in
    record {
      at = h.at;
      inside = h.inside;
      refused = refused-found o h.at none h.inside place reason h.refused;
      none_below = none;
    }

-- the refusal that is found first is the object's first
pub found_is_first : (o : Parts) (place : ℕ) (reason : Reason) → has_secret_in_ram o ≡ false
    → IsFirstFound o place reason → FirstRefusal o place reason
found_is_first o place reason symbols h =
    subst (λ (b : Bool). MatchBool b ((place ≡ 0) × (reason ≡ SecretSymbolInRam)) (IsLowestRefusal o place reason))
    (sym symbols) (found-lowest o place reason h)
