-- The results of a walk, step by step, satisfy the relations, and a region is crossed or blocked as the relations have
-- it.
use Rattle.std.proofs.Common.{◌≡◌, ℕ, zero, suc, ◌+◌, ◌-◌, ◌<◌, ◌≤◌, Bool, true, false, ℤ, length, get_or, Some, refl, sym, ap, ◌∙◌, subst, ⊎_elim, arith}
use Rattle.std.specs.Prelude.{slice_get, if◌then◌else◌}
use Rattle.std.proofs.lemmas.Bool.{cases_lt, false_from_ne_true, false≢true}
use Rattle.std.proofs.lemmas.Option.{slice_get-get_or}
use Rattle.lt_isa.specs.declared.instructions.Instr.{Instr}
use Rattle.gr_word.specs.declared.operations.Cmp.{Cmp}
use Rattle.lt_isa.specs.declared.instructions.Instr.TheVariants.{Nop, Br}
use Rattle.lt_isa.specs.Prelude.{Parts}
use Rattle.trace_patterns.specs.declared.reasons.Reason.{Reason}
use Rattle.trace_patterns.specs.declared.reasons.Reason.TheVariants.{UnequalArms}
use Rattle.trace_patterns.specs.Prelude.{Shown, no_events, TreeEvent, SymState, common, Single, Refuses, Goes, Branches, single, RegionShape, BadShape, Arms, shape, untaken_way, taken_way, WalksTo, AtEnd, Onward, Across, CrossesTo, BothArms, StopsAt, AtOnce, Later, Within, Beyond, BlockedAt, ByShape, InFirst, InSecond, Differ}
use Rattle.trace_patterns.proofs.Singles.{single-branches, branch-single}
use Rattle.trace_patterns.proofs.Shapes.{shape-arms}
use Rattle.region_walk.specs.Prelude.{WalkFound, Walked, Stops, Crossing, Crosses, Blocked, same_shown, compared_arms, walked_arms, crossing, after_pattern, after_crossing, after_single, from_place, walk}
use Rattle.region_walk.proofs.ShownEquality.{decides_shown}
use Rattle.region_walk.proofs.FuelWalks.{walk-end, walk-next}

-- what the relations state about the result of a walk
abbrev pub FoundIs : Parts → (depth end p : ℕ) → SymState → WalkFound → Type 0
FoundIs o depth end p s (Walked pattern u) = WalksTo o depth end p s pattern u
FoundIs o depth end p s (Stops place reason) = StopsAt o depth end p s place reason

-- what the relations state about the outcome of a region
abbrev pub CrossingIs : Parts → (depth end p : ℕ) → ℤ → SymState → Crossing → Type 0
CrossingIs o depth end p offset s (Crosses pattern join u) =
    CrossesTo o depth end p offset s pattern join u × (p < join) × (join ≤ end)
CrossingIs o depth end p offset s (Blocked place reason) = BlockedAt o depth end p offset s place reason

-- two arms that were walked
module _ (o : Parts) (depth end p : ℕ) (offset : ℤ) (s : SymState) (t join : ℕ)
    (arms : shape o depth end p offset ≡ Arms t join) where
  compared_is : (f g : WalkFound) → FoundIs o (depth + 1) (t - 1) (p + 1) s f → FoundIs o (depth + 1) join t s g
      → CrossingIs o depth end p offset s (compared_arms o p join f g)
  compared_is (Stops place reason) g first second = InFirst depth end p offset s t join place reason arms first
  compared_is (Walked a u) (Stops place reason) first second =
      InSecond depth end p offset s t join a u place reason arms first second
  compared_is (Walked a u) (Walked b v) first second = by (same_shown (untaken_way o a) (taken_way o b)) refl
    where
      by : (same : Bool) → same_shown (untaken_way o a) (taken_way o b) ≡ same
          → CrossingIs o depth end p offset s
          (if same then Crosses (untaken_way o a) join (common u v) else Blocked p UnequalArms)
      by true is =
          let region = shape-arms o depth end p offset t join arms in (
            BothArms depth end p offset s t join a u b v arms first second
                ((decides_shown (untaken_way o a) (taken_way o b)).0 is),
            omega
                (arith, region.first, region.second),
            region.ends,
          )
      by false is =
          Differ depth end p offset s t join a u b v arms first second
          (λ ways. false≢true (sym is ∙ (decides_shown (untaken_way o a) (taken_way o b)).1 ways))

-- one place, if the walks from later places satisfy the relations
module _ (o : Parts) (end p : ℕ) (inside : end ≤ length o.code)
    (go : (depth e q : ℕ) (s : SymState) → p < q → q ≤ e → e ≤ end → FoundIs o depth e q s (walk o depth e q s)) where
  arms_is : (depth : ℕ) (offset : ℤ) (s : SymState) (made : RegionShape) → shape o depth end p offset ≡ made
      → CrossingIs o depth end p offset s (walked_arms o (walk o) depth p s made)
  arms_is depth offset s (BadShape place reason) is = ByShape depth end p offset s place reason is
  arms_is depth offset s (Arms t join) is =
      let region = shape-arms o depth end p offset t join is in
      compared_is o depth end p offset s t join is _ _
      (go (depth + 1) (t - 1) (p + 1) s (omega arith) (omega (arith, region.first))
      (omega (arith, region.second, region.ends)))
      (go (depth + 1) join t s (omega (arith, region.first)) region.second region.ends)

  pub crossing_is : (depth : ℕ) (offset : ℤ) (s : SymState)
      → CrossingIs o depth end p offset s (crossing o (walk o) depth end p offset s)
  crossing_is depth offset s = arms_is depth offset s (shape o depth end p offset) refl

  module _ (before : p < end) (depth : ℕ) (s : SymState) (i : Instr) (at : slice_get o.code p ≡ Some i) where
    onward_is : (pattern : Shown TreeEvent) (t : SymState) (f : WalkFound) → single o s i ≡ Goes pattern t
        → FoundIs o depth end (p + 1) t f → FoundIs o depth end p s (after_pattern pattern f)
    onward_is pattern t (Walked rest u) is walk = Onward depth end p s i pattern t rest u before at is walk
    onward_is pattern t (Stops place reason) is walk = Later depth end p s i pattern t place reason before at is walk

    beyond_is : (cmp : Cmp) (ra rb : ℕ) (offset : ℤ) (pattern : Shown TreeEvent) (join : ℕ) (t : SymState)
        (f : WalkFound)
        → i ≡ Br cmp ra rb offset → CrossesTo o depth end p offset s pattern join t → FoundIs o depth end join t f
        → FoundIs o depth end p s (after_pattern pattern f)
    beyond_is cmp ra rb offset pattern join t (Walked rest u) is crosses walk =
        Across depth end p s cmp ra rb offset pattern join t rest u before (at ∙ ap Some is) crosses walk
    beyond_is cmp ra rb offset pattern join t (Stops place reason) is crosses walk =
        Beyond depth end p s cmp ra rb offset pattern join t place reason before (at ∙ ap Some is) crosses walk

    across_is : (cmp : Cmp) (ra rb : ℕ) (offset : ℤ) (c : Crossing) → i ≡ Br cmp ra rb offset
        → CrossingIs o depth end p offset s c → FoundIs o depth end p s (after_crossing c (walk o depth end))
    across_is cmp ra rb offset (Crosses pattern join t) is crosses =
        beyond_is cmp ra rb offset pattern join t (walk o depth end join t) is crosses.0
        (go depth end join t crosses.1 crosses.2 (omega arith))
    across_is cmp ra rb offset (Blocked place reason) is blocked =
        Within depth end p s cmp ra rb offset place reason before (at ∙ ap Some is) blocked

    single_is : (made : Single) → single o s i ≡ made
        → FoundIs o depth end p s (after_single o (walk o) depth end p s made)
    single_is (Refuses reason) is = AtOnce depth end p s i reason before at is
    single_is (Goes pattern t) is =
        onward_is pattern t (walk o depth end (p + 1) t) is
        (go depth end (p + 1) t (omega arith) (omega arith) (omega arith))
    single_is (Branches offset) is =
        let branch = single-branches o s i offset is in
        across_is branch.cmp branch.ra branch.rb offset (crossing o (walk o) depth end p offset s) branch.is
        (crossing_is depth offset s)

ended : (o : Parts) (depth end p : ℕ) (s : SymState) → p ≡ end → WalksTo o depth end p s no_events s
ended o depth end p s at = subst (λ (q : ℕ). WalksTo o depth end q s no_events s) (sym at) (AtEnd depth end s)

found_within : (steps : ℕ) (o : Parts) (depth end p : ℕ) (s : SymState) → end ≤ length o.code → p ≤ end
    → end ≤ p + steps → FoundIs o depth end p s (walk o depth end p s)
found_within zero o depth end p s inside le few =
    subst (FoundIs o depth end p s) (sym (walk-end o depth end p s (omega arith))) (ended o depth end p s (omega arith))
found_within (suc steps) o depth end p s inside le few =
    ⊎_elim
    (λ (lt : p < end).
    let i = get_or o.code p Nop in
    let at = slice_get-get_or o.code p Nop (omega arith) in
    subst (FoundIs o depth end p s) (sym (walk-next o depth end p s lt ∙ ap (from_place o (walk o) depth end p s) at))
    (single_is o end p inside
    (λ d e q t after low high. found_within steps o d e q t (omega arith) low (omega arith)) lt depth s i at
    (single o s i) refl))
    (λ (ge : end ≤ p). subst (FoundIs o depth end p s) (sym (walk-end o depth end p s ge))
    (ended o depth end p s (omega arith)))
    (cases_lt p end)

-- the result of a walk satisfies the relations
pub walk-is : (o : Parts) (depth end p : ℕ) (s : SymState) → end ≤ length o.code → p ≤ end
    → FoundIs o depth end p s (walk o depth end p s)
walk-is o depth end p s inside le = found_within (end - p) o depth end p s inside le (omega arith)

-- the computed outcome of a region satisfies the relations
pub crossing-is : (o : Parts) (depth end p : ℕ) (offset : ℤ) (s : SymState) → end ≤ length o.code
    → CrossingIs o depth end p offset s (crossing o (walk o) depth end p offset s)
crossing-is o depth end p offset s inside =
    crossing_is o end p inside (λ d e q t after low high. walk-is o d e q t (omega arith) low) depth offset s

-- what the relations state is computed
compared_crosses : (o : Parts) (p join : ℕ) (a b : Shown TreeEvent) (s t : SymState) → untaken_way o a ≡ taken_way o b
    → compared_arms o p join (Walked a s) (Walked b t) ≡ Crosses (untaken_way o a) join (common s t)
compared_crosses o p join a b s t ways =
    ap (λ (c : Bool). let r : Crossing = if c then Crosses (untaken_way o a) join
    (common s t) else Blocked p UnequalArms in r) ((decides_shown (untaken_way o a) (taken_way o b)).1 ways)

compared_differs : (o : Parts) (p join : ℕ) (a b : Shown TreeEvent) (s t : SymState)
    → ¬ (untaken_way o a ≡ taken_way o b) → compared_arms o p join (Walked a s) (Walked b t) ≡ Blocked p UnequalArms
compared_differs o p join a b s t differ =
    ap (λ (c : Bool). let r : Crossing = if c then Crosses (untaken_way o a) join
    (common s t) else Blocked p UnequalArms in r)
    (false_from_ne_true (same_shown (untaken_way o a) (taken_way o b))
    (λ e. differ ((decides_shown (untaken_way o a) (taken_way o b)).0 e)))

-- the first place of a walk, and the arms of a region
module _ (o : Parts) (depth end p : ℕ) (s : SymState) where
  begins : (i : Instr) (made : Single) → p < end → slice_get o.code p ≡ Some i → single o s i ≡ made
      → walk o depth end p s ≡ after_single o (walk o) depth end p s made
  begins i made before at is =
      walk-next o depth end p s before ∙ ap (from_place o (walk o) depth end p s) at
      ∙ ap (after_single o (walk o) depth end p s) is

  arms_found : (offset : ℤ) (t join : ℕ) (f g : WalkFound) → shape o depth end p offset ≡ Arms t join
      → walk o (depth + 1) (t - 1) (p + 1) s ≡ f → walk o (depth + 1) join t s ≡ g
      → crossing o (walk o) depth end p offset s ≡ compared_arms o p join f g
  arms_found offset t join f g arms first second =
      ap (walked_arms o (walk o) depth p s) arms
      ∙ ap (λ (x : WalkFound). compared_arms o p join x (walk o (depth + 1) join t s)) first
      ∙ ap (compared_arms o p join f) second

mutual
  pub walks-walk : (o : Parts) (depth end p : ℕ) (s : SymState) (pattern : Shown TreeEvent) (u : SymState)
      → WalksTo o depth end p s pattern u → walk o depth end p s ≡ Walked pattern u
  walks-walk o depth end p s pattern u (AtEnd d e s') = walk-end o depth end end s (omega arith)
  walks-walk o depth end p s pattern u (Onward d e p' s' i shown t rest u' before at goes walks) =
      begins o depth end p s i (Goes shown t) before at goes
      ∙ ap (after_pattern shown) (walks-walk o depth end (p + 1) t rest u walks)
  walks-walk o depth end p s pattern u
      (Across d e p' s' cmp ra rb offset shown join t rest u' before at crosses walks) =
      begins o depth end p s (Br cmp ra rb offset) (Branches offset) before at (branch-single o s cmp ra rb offset)
      ∙ ap (λ (c : Crossing). after_crossing c (walk o depth end))
      (crosses-crossing o depth end p offset s shown join t crosses)
      ∙ ap (after_pattern shown) (walks-walk o depth end join t rest u walks)

  -- a region that is crossed by the relations is crossed in the computation
  pub crosses-crossing : (o : Parts) (depth end p : ℕ) (offset : ℤ) (s : SymState) (pattern : Shown TreeEvent)
      (join : ℕ) (u : SymState)
      → CrossesTo o depth end p offset s pattern join u
      → crossing o (walk o) depth end p offset s ≡ Crosses pattern join u
  crosses-crossing o depth end p offset s pattern join u
      (BothArms d e p' f s' second join' one left other right arms first behind ways) =
      arms_found o depth end p s offset second join (Walked one left) (Walked other right) arms
      (walks-walk o (depth + 1) (second - 1) (p + 1) s one left first)
      (walks-walk o (depth + 1) join second s other right behind) ∙ compared_crosses o p join one other left right ways

mutual
  pub stops-walk : (o : Parts) (depth end p : ℕ) (s : SymState) (place : ℕ) (reason : Reason)
      → StopsAt o depth end p s place reason → walk o depth end p s ≡ Stops place reason
  stops-walk o depth end p s place reason (AtOnce d e p' s' i r before at refuses) =
      begins o depth end p s i (Refuses reason) before at refuses
  stops-walk o depth end p s place reason (Later d e p' s' i shown t q r before at goes stops) =
      begins o depth end p s i (Goes shown t) before at goes
      ∙ ap (after_pattern shown) (stops-walk o depth end (p + 1) t place reason stops)
  stops-walk o depth end p s place reason (Within d e p' s' cmp ra rb offset q r before at blocked) =
      begins o depth end p s (Br cmp ra rb offset) (Branches offset) before at (branch-single o s cmp ra rb offset)
      ∙ ap (λ (c : Crossing). after_crossing c (walk o depth end))
      (blocked-crossing o depth end p offset s place reason blocked)
  stops-walk o depth end p s place reason (Beyond d e p' s' cmp ra rb offset shown join t q r before at crosses stops) =
      begins o depth end p s (Br cmp ra rb offset) (Branches offset) before at (branch-single o s cmp ra rb offset)
      ∙ ap (λ (c : Crossing). after_crossing c (walk o depth end))
      (crosses-crossing o depth end p offset s shown join t crosses)
      ∙ ap (after_pattern shown) (stops-walk o depth end join t place reason stops)

  -- a region that is blocked by the relations is blocked in the computation
  pub blocked-crossing : (o : Parts) (depth end p : ℕ) (offset : ℤ) (s : SymState) (place : ℕ) (reason : Reason)
      → BlockedAt o depth end p offset s place reason → crossing o (walk o) depth end p offset s ≡ Blocked place reason
  blocked-crossing o depth end p offset s place reason (ByShape d e p' f s' q r bad) =
      ap (walked_arms o (walk o) depth p s) bad
  blocked-crossing o depth end p offset s place reason (InFirst d e p' f s' second join q r arms stops) =
      arms_found o depth end p s offset second join (Stops place reason) (walk o (depth + 1) join second s) arms
      (stops-walk o (depth + 1) (second - 1) (p + 1) s place reason stops) refl
  blocked-crossing o depth end p offset s place reason
      (InSecond d e p' f s' second join one left q r arms first stops) =
      arms_found o depth end p s offset second join (Walked one left) (Stops place reason) arms
      (walks-walk o (depth + 1) (second - 1) (p + 1) s one left first)
      (stops-walk o (depth + 1) join second s place reason stops)
  blocked-crossing o depth end p offset s place reason
      (Differ d e p' f s' second join one left other right arms first behind differ) =
      arms_found o depth end p s offset second join (Walked one left) (Walked other right) arms
      (walks-walk o (depth + 1) (second - 1) (p + 1) s one left first)
      (walks-walk o (depth + 1) join second s other right behind)
      ∙ compared_differs o p join one other left right differ
