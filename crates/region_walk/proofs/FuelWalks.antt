-- A walk goes place by place: the equations at its end and at its next place.
use Rattle.std.proofs.Common.{◌≡◌, ℕ, zero, suc, ◌+◌, ◌-◌, ◌<◌, ◌≤◌, Bool, true, false, ℤ, nat_lt, Option, Some, None, refl, sym, ap, ◌∙◌, ⊎_elim, arith}
use Rattle.std.specs.Prelude.{slice_get, if◌then◌else◌}
use Rattle.std.proofs.lemmas.Bool.{cases_lt, lt-ltb, le-ltb}
use Rattle.lt_isa.specs.declared.instructions.Instr.{Instr}
use Rattle.lt_isa.specs.Prelude.{Parts}
use Rattle.trace_patterns.specs.declared.reasons.Reason.TheVariants.{UnequalArms}
use Rattle.trace_patterns.specs.Prelude.{no_events, SymState, common, Single, Refuses, Goes, Branches, single, RegionShape, BadShape, Arms, shape, untaken_way, taken_way}
use Rattle.trace_patterns.proofs.Shapes.{shape-arms}
use Rattle.region_walk.specs.Prelude.{WalkFound, Walked, Stops, Crossing, Crosses, Blocked, Walk, same_shown, compared_arms, walked_arms, crossing, after_pattern, after_crossing, after_single, from_place, walk_within, walk}

-- a region joins after its branch, and at `end` at the latest
abbrev JoinsWithin : (p end : ℕ) → Crossing → Type 0
JoinsWithin p end (Crosses pattern join state) = (p < join) × (join ≤ end)
JoinsWithin p end (Blocked place reason) = Unit {0}

compared_within : (o : Parts) (p end join : ℕ) (f g : WalkFound) → p < join → join ≤ end
    → JoinsWithin p end (compared_arms o p join f g)
compared_within o p end join (Stops place reason) g behind within = tt
compared_within o p end join (Walked a s) (Stops place reason) behind within = tt
compared_within o p end join (Walked a s) (Walked b t) behind within = by (same_shown (untaken_way o a) (taken_way o b))
  where
    by : (same : Bool) → JoinsWithin p end
        (if same then Crosses (untaken_way o a) join (common s t) else Blocked p UnequalArms)
    by true = (behind, within)
    by false = tt

-- the result of a place depends only on walks from later places up to the same end or an earlier one
module _ (o : Parts) (v w : Walk) (end p : ℕ)
    (same : (depth e q : ℕ) (s : SymState) → p < q → e ≤ end → v depth e q s ≡ w depth e q s) where
  record Alike (depth : ℕ) (offset : ℤ) (s : SymState) (made : RegionShape) : Type 0 where
    is : walked_arms o v depth p s made ≡ walked_arms o w depth p s made
    within : JoinsWithin p end (walked_arms o w depth p s made)

  arms_alike : (depth : ℕ) (offset : ℤ) (s : SymState) (made : RegionShape) → shape o depth end p offset ≡ made
      → Alike depth offset s made
  arms_alike depth offset s (BadShape place reason) is = record { is = refl; within = tt }
  arms_alike depth offset s (Arms t join) is =
      let region = shape-arms o depth end p offset t join is in
      record {
        is = ap (λ (f : WalkFound). compared_arms o p join f (v (depth + 1) join t s))
            (same (depth + 1) (t - 1) (p + 1) s (omega arith) (omega (arith, region.first, region.second, region.ends)))
            ∙ ap (compared_arms o p join (w (depth + 1) (t - 1) (p + 1) s))
            (same (depth + 1) join t s (omega (arith, region.first)) region.ends);
        within = compared_within o p end join _ _ (omega (arith, region.first, region.second)) region.ends;
      }

  after_alike : (depth : ℕ) (c : Crossing) → JoinsWithin p end c
      → after_crossing c (v depth end) ≡ after_crossing c (w depth end)
  after_alike depth (Blocked place reason) within = refl
  after_alike depth (Crosses pattern join state) within =
      ap (after_pattern pattern) (same depth end join state within.0 (omega arith))

  single_alike : (depth : ℕ) (s : SymState) (made : Single)
      → after_single o v depth end p s made ≡ after_single o w depth end p s made
  single_alike depth s (Refuses reason) = refl
  single_alike depth s (Goes pattern state) =
      ap (after_pattern pattern) (same depth end (p + 1) state (omega arith) (omega arith))
  single_alike depth s (Branches offset) =
      let alike = arms_alike depth offset s (shape o depth end p offset) refl in
      ap (λ (c : Crossing). after_crossing c (v depth end)) alike.is
      ∙ after_alike depth (crossing o w depth end p offset s) alike.within

  from_place-alike : (depth : ℕ) (s : SymState) (i : Option Instr)
      → from_place o v depth end p s i ≡ from_place o w depth end p s i
  from_place-alike depth s None = refl
  from_place-alike depth s (Some i) = single_alike depth s (single o s i)

if_before : {A : Type 0} (p end : ℕ) (x y : A) → p < end → (if nat_lt p end then x else y) ≡ x
if_before p end x y lt = ap (λ (b : Bool). if b then x else y) (lt-ltb p end lt)

unless_before : {A : Type 0} (p end : ℕ) (x y : A) → end ≤ p → (if nat_lt p end then x else y) ≡ y
unless_before p end x y le = ap (λ (b : Bool). if b then x else y) (le-ltb p end le)

-- a walk from its end or later shows nothing, with any number of steps left
within-end : (steps : ℕ) (o : Parts) (depth end p : ℕ) (s : SymState) → end ≤ p
    → walk_within (suc steps) o depth end p s ≡ Walked no_events s
unfolding walk_within
within-end steps o depth end p s le = unless_before p end _ _ le

within-next : (steps : ℕ) (o : Parts) (depth end p : ℕ) (s : SymState) → p < end
    → walk_within (suc steps) o depth end p s ≡ from_place o (walk_within steps o) depth end p s (slice_get o.code p)
unfolding walk_within
within-next steps o depth end p s lt = if_before p end _ _ lt

-- as many steps as there are places left are enough; more make no difference
enough : (m n : ℕ) (o : Parts) (depth end p : ℕ) (s : SymState) → end ≤ p + m → end ≤ p + n
    → walk_within (suc m) o depth end p s ≡ walk_within (suc n) o depth end p s
enough zero n o depth end p s hm hn =
    within-end zero o depth end p s (omega arith) ∙ sym (within-end n o depth end p s (omega arith))
enough (suc m) zero o depth end p s hm hn =
    within-end (suc m) o depth end p s (omega arith) ∙ sym (within-end zero o depth end p s (omega arith))
enough (suc m) (suc n) o depth end p s hm hn =
    ⊎_elim
    (λ (lt : p < end).
    within-next (suc m) o depth end p s lt
    ∙ from_place-alike o (walk_within (suc m) o) (walk_within (suc n) o) end p
    (λ d e q t after le. enough m n o d e q t (omega arith) (omega arith)) depth s (slice_get o.code p)
    ∙ sym (within-next (suc n) o depth end p s lt))
    (λ (le : end ≤ p). within-end (suc m) o depth end p s le ∙ sym (within-end (suc n) o depth end p s le))
    (cases_lt p end)

-- a walk from its end or later shows nothing
pub walk-end : (o : Parts) (depth end p : ℕ) (s : SymState) → end ≤ p → walk o depth end p s ≡ Walked no_events s
unfolding walk
walk-end o depth end p s le = within-end (end - p) o depth end p s le

-- before its end, a walk is determined by its first place
pub walk-next : (o : Parts) (depth end p : ℕ) (s : SymState) → p < end
    → walk o depth end p s ≡ from_place o (walk o) depth end p s (slice_get o.code p)
unfolding walk
walk-next o depth end p s lt =
    let steps = end - p - 1 in
    let count : end - p ≡ suc steps = omega arith in
    within-next (end - p) o depth end p s lt
    ∙ ap (λ (m : ℕ). from_place o (walk_within m o) depth end p s (slice_get o.code p)) count
    ∙ from_place-alike o (walk_within (suc steps) o) (walk o) end p
    (λ d e q t after le. enough steps (e - q) o d e q t (omega arith) (omega arith)) depth s (slice_get o.code p)
