-- The results of the check, place by place, satisfy the relations: which places are visited, and what is known there.
use Rattle.std.proofs.Common.{◌≡◌, ℕ, zero, suc, ◌+◌, ◌-◌, ◌<◌, ◌≤◌, ◌==◌, Bool, true, false, ℤ, length, ◌⊎◌, inl, inr, Option, Some, None, Result, Ok, Err, refl, sym, ap, ◌∙◌, subst, arith, add-one}
use Rattle.std.specs.Prelude.{if◌then◌else◌}
use Rattle.std.proofs.lemmas.Bool.{eqb-true, eqb-false, ne_eqb}
use Rattle.lt_isa.specs.Prelude.{Parts}
use Rattle.trace_patterns.specs.declared.reasons.Reason.{Reason}
use Rattle.trace_patterns.specs.declared.reasons.Reason.TheVariants.{NoteTooLow, RunsOffEnd}
use Rattle.trace_patterns.specs.Prelude.{Shown, TreeEvent, Known, fits, SymState, at_entry, known_after, BlockedAt, Ruling, claimed_at, ruling_at, CrossesFrom, VisitedAt, Noted, Unnoted, ComesTo, Starts, FallsTo, JoinsAt, LiesInside}
use Rattle.trace_patterns.proofs.Walks.{crosses-region}
use Rattle.trace_patterns.proofs.Notes.{claimed_at-inside}
use Rattle.region_walk.specs.Prelude.{Crossing, Crosses, Blocked, IsCrossed}
use Rattle.region_walk.proofs.WalkRelations.{CrossingIs, crossing-is, crosses-crossing, blocked-crossing}
use Rattle.lt_checker.specs.Prelude.{Effect, Refused, Falls, Leaves, Joins, Stuck, joined_at, crossing_at, effect_of, effect_at, entered, on_entry, Arrival, Unreached, Here, Inside, effect_from, arrival_at, reached_at, refusal_in, refusal_at, NoneBelow}
use Rattle.lt_checker.proofs.Reached.{reached_at-zero, reached_at-next, reached-inside, reached-join}
use Rattle.trace_patterns.specs.Rules as rule

-- the place opens a region that is crossed, with this join and this known there
pub record Crossed (o : Parts) (p : ℕ) (k : Known) (join : ℕ) (after : Known) : Type 0 where
  pub offset : ℤ
  pub pattern : Shown TreeEvent
  pub state : SymState
  pub opens : ruling_at o p k ≡ rule.Opens offset
  pub crosses : CrossesFrom o p offset k pattern join state
  pub after_is : after ≡ known_after state
  pub behind : p < join

-- what the relations state about each effect of a place
abbrev pub EffectIs : Parts → ℕ → Known → Effect → Type 0
EffectIs o p k (Refused reason) =
    (ruling_at o p k ≡ rule.Refused reason) ⊎
    ((next : Known) × (ruling_at o p k ≡ rule.Falls next) × (p + 1 ≡ length o.code) × (reason ≡ RunsOffEnd))
EffectIs o p k (Falls next) = (ruling_at o p k ≡ rule.Falls next) × ((p + 1 ≡ length o.code) → ⊥)
EffectIs o p k Leaves = Unit {0}
EffectIs o p k (Joins join after) = Crossed o p k join after
EffectIs o p k (Stuck place reason) =
    (offset : ℤ) × (ruling_at o p k ≡ rule.Opens offset) × BlockedAt o 0 (length o.code - 1) p offset
    (at_entry k) place reason

-- the effect of a ruling
module _ (o : Parts) (p : ℕ) (k : Known) where
  falls_is : (next : Known) (last : Bool) → (p + 1 == length o.code) ≡ last → ruling_at o p k ≡ rule.Falls next
      → EffectIs o p k (if last then Refused RunsOffEnd else Falls next)
  falls_is next true at is = inr (next, is, eqb-true (p + 1) (length o.code) at, refl)
  falls_is next false at is = (is, eqb-false (p + 1) (length o.code) at)

  joins_is : (offset : ℤ) (c : Crossing) → ruling_at o p k ≡ rule.Opens offset
      → CrossingIs o 0 (length o.code - 1) p offset (at_entry k) c → EffectIs o p k (joined_at c)
  joins_is offset (Crosses pattern join state) is h =
      record {
        offset = offset;
        pattern = pattern;
        state = state;
        opens = is;
        crosses = h.0;
        after_is = refl;
        behind
            = h.1;
      }
  joins_is offset (Blocked place reason) is h = (offset, is, h)

  effect_is : (r : Ruling) → ruling_at o p k ≡ r → EffectIs o p k (effect_of o p k r)
  effect_is (rule.Refused reason) is = inl is
  effect_is (rule.Falls next) is = falls_is next (p + 1 == length o.code) refl is
  effect_is rule.Leaves is = tt
  effect_is (rule.Opens offset) is =
      joins_is offset (crossing_at o p offset k) is
      (crossing-is o 0 (length o.code - 1) p offset (at_entry k) (omega arith))

  -- the computed effect satisfies the relations
  pub effect-is : EffectIs o p k (effect_at o p k)
  unfolding effect_at
  effect-is = effect_is (ruling_at o p k) refl

  -- the computed effect is that of the ruling
  pub effect-ruled : (r : Ruling) → ruling_at o p k ≡ r → effect_at o p k ≡ effect_of o p k r
  unfolding effect_at
  effect-ruled r is = ap (effect_of o p k) is

-- a place is inside a region with this join and this known there
pub record Lies (o : Parts) (p join : ℕ) (after : Known) : Type 0 where
  pub branch : ℕ
  pub known : Known
  pub visited : VisitedAt o branch known
  pub crossed : Crossed o branch known join after
  pub behind : branch < p
  pub before : p < join

-- what the relations state about how a place is reached
abbrev pub ArrivalIs : Parts → ℕ → Arrival → Type 0
ArrivalIs o p Unreached = Unit {0}
ArrivalIs o p (Here k) = ComesTo o p k
ArrivalIs o p (Inside join k) = Lies o p join k

module _ (o : Parts) where
  joins_at : (branch : ℕ) (known : Known) (join p : ℕ) (after : Known) → VisitedAt o branch known
      → Crossed o branch known join after → p ≡ join → ComesTo o p after
  joins_at branch known join p after visited h at =
      subst (λ (q : ℕ). ComesTo o q after) (sym at)
      (subst (ComesTo o join) (sym h.after_is)
      (JoinsAt branch known h.offset h.pattern join h.state visited h.opens h.crosses))

  arrives_if : (branch : ℕ) (known : Known) (p join : ℕ) (after : Known) (here : Bool) → VisitedAt o branch known
      → Crossed o branch known join after → branch < p → p ≤ join → (p == join) ≡ here
      → ArrivalIs o p (if here then Here after else Inside join after)
  arrives_if branch known p join after true visited h behind le is =
      joins_at branch known join p after visited h (eqb-true p join is)
  arrives_if branch known p join after false visited h behind le is =
      record {
        branch = branch;
        known = known;
        visited = visited;
        crossed = h;
        behind = behind;
        before = omega
            (arith, eqb-false p join is);
      }

  -- how the next place is reached from a visited one
  next_is : (p : ℕ) (k : Known) (e : Effect) → VisitedAt o p k → EffectIs o p k e
      → ArrivalIs o (p + 1) (arrival_at (p + 1) e)
  next_is p k (Falls next) visited h = FallsTo p k next visited h.0
  next_is p k (Joins join after) visited h =
      arrives_if p k (p + 1) join after (p + 1 == join) visited h (omega arith) (omega (arith, h.behind)) refl
  next_is p k other visited h = tt

  entered_is : (p : ℕ) (known : Result Known Reason) → ((k : Known) → known ≡ Ok k → VisitedAt o p k)
      → ArrivalIs o (p + 1) (arrival_at (p + 1) (on_entry known (effect_at o p)))
  entered_is p (Err reason) visited = tt
  entered_is p (Ok k) visited = next_is p k (effect_at o p k) (visited k refl) (effect-is o p k)

  ok_is : (x y z : Known) (p : ℕ) → ◌≡◌ {A = Result Known Reason} (Ok x) (Ok y) → VisitedAt o p x → VisitedAt o p y
  ok_is x y z p e h = let same : x ≡ y = cc in subst (VisitedAt o p) same h

  fit_visited : (p : ℕ) (claimed : Known) (fit : Bool) → claimed_at o p ≡ Some claimed → (k : Known)
      → ◌≡◌ {A = Result Known Reason} (if fit then Ok claimed else Err NoteTooLow) (Ok k) → VisitedAt o p k
  fit_visited p claimed true at k e = ok_is claimed k k p e (Noted p claimed at)
  fit_visited p claimed false at k e = absurd cc

  -- what is known after a place is entered is known there as the relations have it
  entered_visited : (p : ℕ) (claimed reached : Option Known) → claimed_at o p ≡ claimed
      → ((k : Known) → reached ≡ Some k → ComesTo o p k) → (k : Known) → entered claimed reached ≡ Ok k
      → VisitedAt o p k
  entered_visited p None None at comes k e = absurd cc
  entered_visited p None (Some c) at comes k e = ok_is c k k p e (Unnoted p c at (comes c refl))
  entered_visited p (Some c) None at comes k e = ok_is c k k p e (Noted p c at)
  entered_visited p (Some c) (Some r) at comes k e = fit_visited p c (fits r c) at k e

  some_is : (p : ℕ) (k : Known) → ComesTo o p k → (c : Known) → ◌≡◌ {A = Option Known} (Some k) (Some c) → ComesTo o p c
  some_is p k comes c e = let same : k ≡ c = cc in subst (ComesTo o p) same comes

  from_arrival : (p : ℕ) (a : Arrival) → ArrivalIs o p a → ArrivalIs o (p + 1) (arrival_at (p + 1) (effect_from o p a))
  unfolding effect_from
  from_arrival p Unreached h = entered_is p _ (entered_visited p (claimed_at o p) None refl (λ k e. absurd cc))
  from_arrival p (Here k) h = entered_is p _ (entered_visited p (claimed_at o p) (Some k) refl (some_is p k h))
  from_arrival p (Inside join k) h =
      arrives_if h.branch h.known (p + 1) join k (p + 1 == join) h.visited h.crossed (omega (arith, h.behind))
      (omega (arith, h.before)) refl

  -- how a place is reached satisfies the relations
  pub arrival-is : (p : ℕ) → ArrivalIs o p (reached_at o p)
  arrival-is zero = subst (ArrivalIs o 0) (sym (reached_at-zero o)) Starts
  arrival-is (suc p) =
      subst (λ (q : ℕ). ArrivalIs o q (reached_at o q)) (add-one p)
      (subst (ArrivalIs o (p + 1)) (sym (reached_at-next o p)) (from_arrival p (reached_at o p) (arrival-is p)))

  -- what reaches a place in the computation reaches it in the relations
  pub here-comes : (p : ℕ) (k : Known) → reached_at o p ≡ Here k → ComesTo o p k
  here-comes p k e = subst (ArrivalIs o p) e (arrival-is p)

  -- a place inside a region in the computation is inside it in the relations
  pub inside-lies : (p join : ℕ) (k : Known) → reached_at o p ≡ Inside join k → Lies o p join k
  inside-lies p join k e = subst (ArrivalIs o p) e (arrival-is p)

  -- no place inside a region has a note
  pub no_note-inside : (p join : ℕ) (k : Known) → Lies o p join k → claimed_at o p ≡ None
  no_note-inside p join k h =
      let region = crosses-region o 0 (length o.code - 1) h.branch h.crossed.offset
      (at_entry h.known) h.crossed.pattern join h.crossed.state h.crossed.crosses in
      claimed_at-inside o h.branch join p region.1.no_note h.behind h.before

  -- a place between a branch and its join is inside the region
  pub lies-inside : (p join : ℕ) (k : Known) → Lies o p join k → LiesInside o p
  lies-inside p join k h = record {
    branch = h.branch;
    known = h.known;
    offset = h.crossed.offset;
    pattern = h.crossed.pattern;
    join = join;
    state = h.crossed.state;
    visited = h.visited;
    opens = h.crossed.opens;
    crosses = h.crossed.crosses;
    behind = h.behind;
    before = h.before;
  }

-- the result for a place is the result for a visited place at which this is known
abbrev pub KnownAt : Parts → ℕ → Known → Type 0
KnownAt o p k = effect_from o p (reached_at o p) ≡ effect_at o p k

-- what reaches a place fits its note
abbrev pub FitsHere : Parts → ℕ → Type 0
FitsHere o p = (k claimed : Known) → reached_at o p ≡ Here k → claimed_at o p ≡ Some claimed → fits k claimed ≡ true

module _ (o : Parts) (p : ℕ) where
  -- a refusal isn't `None`
  pub no_refusal : {A : Type 0} (r : ℕ × Reason) → ◌≡◌ {A = Option (ℕ × Reason)} (Some r) None → A
  no_refusal r e = absurd cc

  fits_if : (fit : Bool) (claimed : Known)
      → refusal_in p (on_entry (if fit then Ok claimed else Err NoteTooLow) (effect_at o p)) ≡ None → fit ≡ true
  fits_if true claimed e = refl
  fits_if false claimed e = no_refusal (p, NoteTooLow) e

  -- what reaches a place that isn't refused fits its note
  pub fits-here : refusal_at o p ≡ None → FitsHere o p
  unfolding effect_from
  fits-here none k claimed here at =
      fits_if (fits k claimed) claimed
      (sym (ap (λ (a : Arrival). refusal_in p (effect_from o p a)) here
      ∙ ap (λ (c : Option Known). refusal_in p (on_entry (entered c (Some k)) (effect_at o p))) at) ∙ none)

  noted_known : (a : Arrival) (claimed : Known) → reached_at o p ≡ a → claimed_at o p ≡ Some claimed → FitsHere o p
      → effect_from o p a ≡ effect_at o p claimed
  unfolding effect_from
  noted_known Unreached claimed is at fit = ap (λ (c : Option Known). on_entry (entered c None) (effect_at o p)) at
  noted_known (Here k) claimed is at fit =
      ap (λ (c : Option Known). on_entry (entered c (Some k)) (effect_at o p)) at
      ∙ ap (λ (b : Bool). let r : Result Known Reason = if b then Ok claimed else Err NoteTooLow in on_entry r
      (effect_at o p)) (fit k claimed is at)
  noted_known (Inside join k) claimed is at fit =
      absurd (let f : ◌≡◌ {A = Option Known} None (Some claimed) = sym
      (no_note-inside o p join k (inside-lies o p join k is)) ∙ at in cc)

  unnoted_known : (k : Known) → claimed_at o p ≡ None → reached_at o p ≡ Here k → KnownAt o p k
  unfolding effect_from
  unnoted_known k at here =
      ap (effect_from o p) here ∙ ap (λ (c : Option Known). on_entry (entered c (Some k)) (effect_at o p)) at

-- a place before the last one falls through to the next
pub falls_on : (o : Parts) (p : ℕ) (next : Known) → p + 1 < length o.code
    → ◌≡◌ {A = Effect} (if p + 1 == length o.code then Refused RunsOffEnd else Falls next) (Falls next)
falls_on o p next lt =
    ap (λ (b : Bool). let e : Effect = if b then Refused RunsOffEnd else Falls next in e)
    (ne_eqb (p + 1) (length o.code) (λ e. absurd (omega arith)))

-- what the relations state is computed, as long as no place before is refused
mutual
  -- what reaches a place in the relations reaches it in the computation
  pub comes-here : (o : Parts) (p : ℕ) (k : Known) → ComesTo o p k → NoneBelow o p → p < length o.code
      → reached_at o p ≡ Here k
  comes-here o p k Starts none inside = reached_at-zero o
  comes-here o p k (FallsTo q known next visited falls) none inside =
      let at : KnownAt o q known = visited-known o q known visited (λ r lt. none r (omega arith))
      (fits-here o q (none q (omega arith))) (omega arith) in
      reached_at-next o q ∙ ap (arrival_at (q + 1))
      (at ∙ effect-ruled o q known (rule.Falls next) falls ∙ falls_on o q next inside)
  comes-here o p k (JoinsAt q known offset pattern join state visited opens crosses) none inside =
      let region = crosses-region o 0 (length o.code - 1) q offset (at_entry known) pattern join state crosses in
      let behind : q < join = omega (arith, region.1.first, region.1.second) in
      let at : KnownAt o q known = visited-known o q known visited (λ r lt. none r (omega (arith, behind)))
      (fits-here o q (none q behind)) (omega (arith, behind)) in
      reached-join o q join (known_after state)
      (at ∙ effect-ruled o q known (rule.Opens offset) opens
      ∙ ap joined_at (crosses-crossing o 0 (length o.code - 1) q offset
      (at_entry known) pattern join state crosses)) behind

  -- what is known at a visited place in the relations is known there in the computation
  pub visited-known : (o : Parts) (p : ℕ) (k : Known) → VisitedAt o p k → NoneBelow o p → FitsHere o p
      → p < length o.code → KnownAt o p k
  visited-known o p k (Noted q claimed at) none fit inside = noted_known o p (reached_at o p) k refl at fit
  visited-known o p k (Unnoted q known at comes) none fit inside =
      unnoted_known o p k at (comes-here o p k comes none inside)

-- a place inside a region that is crossed is passed over
pub lies-reached : (o : Parts) (p : ℕ) (h : LiesInside o p) → NoneBelow o p → p < length o.code
    → reached_at o p ≡ Inside h.join (known_after h.state)
lies-reached o p h none inside =
    let at : KnownAt o h.branch h.known = visited-known o h.branch h.known h.visited
    (λ r lt. none r (omega (arith, h.behind))) (fits-here o h.branch (none h.branch h.behind))
    (omega (arith, h.behind)) in
    reached-inside o h.branch h.join (known_after h.state)
    (at ∙ effect-ruled o h.branch h.known (rule.Opens h.offset) h.opens
    ∙ ap joined_at (crosses-crossing o 0 (length o.code - 1) h.branch h.offset
    (at_entry h.known) h.pattern h.join h.state h.crosses)) p h.behind h.before

-- a region that is crossed joins in the computation
pub crossed-joins : (o : Parts) (p : ℕ) (offset : ℤ) (k : Known) (join : ℕ) (after : Known)
    → IsCrossed o p offset k join after → Joins join after ≡ joined_at (crossing_at o p offset k)
crossed-joins o p offset k join after h =
    ap (Joins join) h.known_is
    ∙ ap joined_at (sym (crosses-crossing o 0 (length o.code - 1) p offset
    (at_entry k) h.pattern join h.state h.crosses))

-- a region that is refused is refused in the computation
pub blocked-stuck : (o : Parts) (p : ℕ) (offset : ℤ) (k : Known) (place : ℕ) (reason : Reason)
    → BlockedAt o 0 (length o.code - 1) p offset (at_entry k) place reason
    → Stuck place reason ≡ joined_at (crossing_at o p offset k)
blocked-stuck o p offset k place reason h =
    ap joined_at (sym (blocked-crossing o 0 (length o.code - 1) p offset (at_entry k) place reason h))
