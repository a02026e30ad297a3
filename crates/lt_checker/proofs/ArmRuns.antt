-- The machine runs an arm to its end and a region to its join, and shows its pattern on either way.
use Rattle.std.proofs.Common.{◌≡◌, ℕ, ◌+◌, ◌-◌, Bool, true, false, ℤ, Some, None, refl, sym, ap, ◌∙◌, subst, ⊎_elim, arith}
use Rattle.std.specs.Prelude.{slice_get, if◌then◌else◌}
use Rattle.std.proofs.lemmas.Bool.{cases_Bool}
use Rattle.gr_word.specs.declared.operations.Cmp.{Cmp}
use Rattle.gr_word.specs.Prelude.{compared}
use Rattle.lt_isa.specs.declared.instructions.Instr.TheVariants.{Jmp, Br}
use Rattle.lt_isa.specs.Prelude.{Parts, IsInRange, State, register, StepResult, Goes, target_of, passed, Here, IsShaped}
use Rattle.lt_isa.proofs.Stretches.{reaches-shaped}
use Rattle.trace_patterns.specs.Prelude.{Shown, no_events, with_gap, joined, TreeEvent, SymState, common, gap, WalksTo, AtEnd, Onward, Across, CrossesTo, BothArms, untaken_way, taken_way}
use Rattle.trace_patterns.proofs.PatternLaws.{joined-no_events, joined-gap}
use Rattle.trace_patterns.proofs.Shapes.{IsRegion, shape-arms}
use Rattle.lt_checker.proofs.PatternValues.{played}
use Rattle.lt_checker.proofs.Described.{Describes, describes_moved, describes_left, describes_right}
use Rattle.lt_checker.proofs.ArmSteps.{Runs, runs_then, quiet, single_runs}

-- a gap after a pattern
gap_behind : (p : Shown TreeEvent) (n : ℕ) → joined p (gap n) ≡ with_gap p n
gap_behind p n = joined-gap p no_events n ∙ ap (λ (q : Shown TreeEvent). with_gap q n) (joined-no_events p)

-- from every state at a place, if what is known describes it, the machine runs to another place
abbrev pub RunsFrom : Parts → State → ℕ → SymState → ℕ → Shown TreeEvent → SymState → Type 0
RunsFrom o e p known q pattern after =
    (s : State) → s.place ≡ p → IsShaped o s → Describes e known s → Runs o e s q pattern after

runs_shaped : (o : Parts) → IsInRange o
    → (e s : State) (q : ℕ) (pattern : Shown TreeEvent) (known : SymState) (one : Runs o e s q pattern known)
    → IsShaped o s → IsShaped o one.last
runs_shaped o fits e s q pattern known one shaped =
    reaches-shaped o fits s (played o e s.cycle pattern.parts) one.last one.reached shaped

-- the same run, of which less is known
runs_less : (o : Parts) (e s : State) (q : ℕ) (pattern same : Shown TreeEvent) (known less : SymState) → pattern ≡ same
    → ((u : State) → Describes e known u → Describes e less u) → Runs o e s q pattern known → Runs o e s q same less
runs_less o e s q pattern same known less is weaker one = subst (λ (x : Shown TreeEvent). Runs o e s q x less) is
    (record {
      last = one.last;
      reached = one.reached;
      at = one.at;
      cycle = one.cycle;
      described = weaker one.last
          one.described;
    })

module _ (o : Parts) (fits : IsInRange o) (e : State) where
  -- a jump
  jump_runs : (p : ℕ) (known : SymState) (back : ℤ) (join : ℕ) → slice_get o.code p ≡ Some (Jmp back)
      → target_of o p back ≡ join → RunsFrom o e p known join (gap o.profile.taken) known
  jump_runs p known back join at joins s place shaped h =
      quiet o e s (Jmp back) (passed o (Jmp back) true 0 (target_of o s.place back) s) join o.profile.taken known
      (ap (slice_get o.code) place ∙ at) refl (ap (λ (q : ℕ). target_of o q back) place ∙ joins) refl
      (describes_moved e known s _ _ h)

  -- a branch that is taken; and one that isn't
  taken_runs : (p : ℕ) (known : SymState) (cmp : Cmp) (ra rb : ℕ) (offset : ℤ) (second : ℕ)
      → slice_get o.code p ≡ Some (Br cmp ra rb offset) → target_of o p offset ≡ second → (s : State) → s.place ≡ p
      → compared cmp (register s ra) (register s rb) ≡ true → Describes e known s
      → Runs o e s second (gap o.profile.taken) known
  taken_runs p known cmp ra rb offset second at leads s place holds h =
      let i = Br cmp ra rb offset in
      let next = passed o i true 0 (target_of o s.place offset) s in
      quiet o e s i next second o.profile.taken known (ap (slice_get o.code) place ∙ at)
      (ap (λ (c : Bool). let x : StepResult = if c then Goes None next else Goes None
      (passed o i false 0 (s.place + 1) s) in x) holds) (ap (λ (q : ℕ). target_of o q offset) place ∙ leads) refl
      (describes_moved e known s _ _ h)

  untaken_runs : (p : ℕ) (known : SymState) (cmp : Cmp) (ra rb : ℕ) (offset : ℤ)
      → slice_get o.code p ≡ Some (Br cmp ra rb offset) → (s : State) → s.place ≡ p
      → compared cmp (register s ra) (register s rb) ≡ false → Describes e known s → Runs o e s (p + 1) (gap 1) known
  untaken_runs p known cmp ra rb offset at s place fails h =
      let i = Br cmp ra rb offset in
      let next = passed o i false 0 (s.place + 1) s in
      quiet o e s i next (p + 1) 1 known (ap (slice_get o.code) place ∙ at)
      (ap (λ (c : Bool). let x : StepResult = if c then Goes None
      (passed o i true 0 (target_of o s.place offset) s) else Goes None next in x) fails)
      (ap (λ (q : ℕ). q + 1) place) refl (describes_moved e known s _ _ h)

  -- a region, whose arms run to their ends
  pub region_runs : (depth end p : ℕ) (cmp : Cmp) (ra rb : ℕ) (offset : ℤ) (second join : ℕ) (known : SymState)
      (one : Shown TreeEvent) (left : SymState) (other : Shown TreeEvent) (right : SymState)
      → slice_get o.code p ≡ Some (Br cmp ra rb offset) → IsRegion o depth end p offset second join
      → untaken_way o one ≡ taken_way o other → RunsFrom o e (p + 1) known (second - 1) one left
      → RunsFrom o e second known join other right → RunsFrom o e p known join (untaken_way o one) (common left right)
  region_runs depth end p cmp ra rb offset second join known one left other right at region ways first behind s place
      shaped h =
      ⊎_elim
      (λ (holds : compared cmp (register s ra) (register s rb) ≡ true).
      let branch = taken_runs p known cmp ra rb offset second at region.target s place holds h in
      let arm = behind branch.last branch.at
      (runs_shaped o fits e s second (gap o.profile.taken) known branch shaped) branch.described in
      runs_less o e s join (taken_way o other) (untaken_way o one) right (common left right) (sym ways)
      (describes_right e left right) (runs_then o e s second join (gap o.profile.taken) other known right branch arm))
      (λ (fails : compared cmp (register s ra) (register s rb) ≡ false).
      let branch = untaken_runs p known cmp ra rb offset at s place fails h in
      let arm = first branch.last branch.at
      (runs_shaped o fits e s (p + 1) (gap 1) known branch shaped) branch.described in
      let both = runs_then o e s (p + 1) (second - 1) (gap 1) one known left branch arm in
      let jump = jump_runs (second - 1) left region.back join region.jump region.joins both.last both.at
      (runs_shaped o fits e s (second - 1) (joined (gap 1) one) left both shaped) both.described in
      runs_less o e s join (joined (joined (gap 1) one) (gap o.profile.taken)) (untaken_way o one) left
      (common left right) (gap_behind (joined (gap 1) one) o.profile.taken) (describes_left e left right)
      (runs_then o e s (second - 1) join (joined (gap 1) one) (gap o.profile.taken) left left both jump))
      (cases_Bool (compared cmp (register s ra) (register s rb)))

  -- an arm, and a region in it
  mutual
    -- a run of an arm that is walked shows the arm's pattern
    pub arm_runs : (depth q p : ℕ) (known : SymState) (pattern : Shown TreeEvent) (after : SymState)
        → WalksTo o depth q p known pattern after → RunsFrom o e p known q pattern after
    arm_runs depth q p known pattern after (AtEnd d end k) s place shaped h =
        record { last = s; reached = Here s; at = place; cycle = omega arith; described = h }
    arm_runs depth q p known pattern after (Onward d end p' k i shown t rest u before at goes walk) s place shaped h =
        let step = single_runs o fits e s shaped k h i shown t (ap (slice_get o.code) place ∙ at) goes in
        let more = arm_runs depth q (p + 1) t rest u walk step.last (step.at ∙ ap (λ (n : ℕ). n + 1) place)
        (runs_shaped o fits e s (s.place + 1) shown t step shaped) step.described in
        runs_then o e s (s.place + 1) q shown rest t u step more
    arm_runs depth q p known pattern after
        (Across d end p' k cmp ra rb offset shown join t rest u before at crosses walk) s place shaped h =
        let region = crosses_runs depth q p cmp ra rb offset known shown join t crosses at s place shaped h in
        let more = arm_runs depth q join t rest u walk region.last region.at
        (runs_shaped o fits e s join shown t region shaped) region.described in
        runs_then o e s join q shown rest t u region more

    crosses_runs : (depth q p : ℕ) (cmp : Cmp) (ra rb : ℕ) (offset : ℤ) (known : SymState) (pattern : Shown TreeEvent)
        (join : ℕ) (after : SymState) → CrossesTo o depth q p offset known pattern join after
        → slice_get o.code p ≡ Some (Br cmp ra rb offset) → RunsFrom o e p known join pattern after
    crosses_runs depth q p cmp ra rb offset known pattern join after
        (BothArms d end p' f k second join' one left other right arms first behind ways) at =
        region_runs depth q p cmp ra rb offset second join known one left other right at
        (shape-arms o depth q p offset second join arms) ways
        (arm_runs (depth + 1) (second - 1) (p + 1) known one left first)
        (arm_runs (depth + 1) join second known other right behind)
