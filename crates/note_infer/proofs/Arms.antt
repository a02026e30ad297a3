-- What an arm that is walked carries, and where steps from its places lead.
use Rattle.std.proofs.Common.{◌≡◌, ℕ, ◌+◌, ◌-◌, ◌<◌, ◌≤◌, true, ℤ, slice_get, ◌⊎◌, inl, inr, Some, refl, sym, ap, ◌∙◌, subst, arith}
use Rattle.std.proofs.lemmas.Bool.{cases_eq, cases_lt, false≢true}
use Rattle.gr_word.specs.declared.operations.Cmp.{Cmp}
use Rattle.lt_isa.specs.declared.instructions.Instr.{Instr}
use Rattle.lt_isa.specs.declared.instructions.Instr.TheVariants.{Halt, Jmp, Br}
use Rattle.lt_isa.specs.Prelude.{Parts, target_of}
use Rattle.trace_patterns.specs.Prelude.{Shown, TreeEvent, SymState, Single, Refuses, Goes, Branches, single, WalksTo, AtEnd, Onward, Across, CrossesTo, BothArms, only_goes_on, without_notes, CarriesTo, Arrived, Along, Through, CarriesOver, ByBoth}
use Rattle.trace_patterns.proofs.Shapes.{IsRegion, shape-arms}
use Rattle.trace_patterns.proofs.SymStateLaws.{IsSized, single-sized}
use Rattle.trace_patterns.proofs.Walks.{crosses-sized}
use Rattle.note_infer.specs.Prelude.{LeadsTo}
use Rattle.note_infer.proofs.Lower.{below-own}
use Rattle.trace_patterns.proofs.Carries.{instr-once, offset_once}
use Rattle.note_infer.proofs.ArmAgain.{shape-renoted, single-again, ends_ahead}
use Rattle.note_infer.proofs.SameParts.{br_not_jmp, same_jump}
use Rattle.note_infer.specs.Steps as step

-- what the walk of an arm leaves, the transitions without notes carry too
mutual
  pub walk-carries : (a : Parts) (depth end p : ℕ) (s : SymState) (pattern : Shown TreeEvent) (t : SymState)
      → WalksTo a depth end p s pattern t → IsSized s → CarriesTo (without_notes a) depth end p s t
  walk-carries a depth end p s pattern t (AtEnd d e s') sized = Arrived depth end end s refl
  walk-carries a depth end p s pattern t (Onward d e p' s' i shown u rest v before at goes walk) sized =
      let one = single-again a a.notes s s (below-own s sized) shown u i goes in
      Along depth end p s i t before at one.goes
      (subst (λ (x : SymState). CarriesTo (without_notes a) depth end (p + 1) x t) one.behind
      (walk-carries a depth end (p + 1) u rest t walk (single-sized s sized a i shown u goes)))
  walk-carries a depth end p s pattern t
      (Across d e p' s' cmp ra rb offset shown join u rest v before at crosses walk) sized =
      Through depth end p s cmp ra rb offset join u t before at
      (cross-carries a depth end p offset s shown join u crosses sized)
      (walk-carries a depth end join u rest t walk (crosses-sized a depth end p offset s shown join u crosses sized))

  pub cross-carries : (a : Parts) (depth end p : ℕ) (offset : ℤ) (s : SymState) (pattern : Shown TreeEvent) (join : ℕ)
      (t : SymState) → CrossesTo a depth end p offset s pattern join t → IsSized s
      → CarriesOver (without_notes a) depth end p offset s join t
  cross-carries a depth end p offset s pattern join t
      (BothArms d e p' f s' second j' one left other right arms first behind ways) sized =
      ByBoth depth end p offset s second join left right
      (shape-renoted a Rattle.std.specs.Prelude.[] depth end p offset second join arms refl)
      (walk-carries a (depth + 1) (second - 1) (p + 1) s one left first sized)
      (walk-carries a (depth + 1) join second s other right behind sized)

-- where one step leads to
pub leads-plain : (a : Parts) (x y : ℕ) (i : Instr) → slice_get a.code x ≡ Some i → only_goes_on i ≡ true
    → LeadsTo a x y → y ≡ x + 1
leads-plain a x y i at goes (step.Onward p q j at' goes' to inside) = to
leads-plain a x y i at goes (step.Past p q cmp ra rb offset at' to inside) = to
leads-plain a x y i at goes (step.Branched p q cmp ra rb offset at' to inside) =
    absurd (false≢true (ap only_goes_on (sym (instr-once a x i (Br cmp ra rb offset) at at')) ∙ goes))
leads-plain a x y i at goes (step.Jumped p q offset at' to inside) =
    absurd (false≢true (ap only_goes_on (sym (instr-once a x i (Jmp offset) at at')) ∙ goes))

pub leads-branch : (a : Parts) (x y : ℕ) (cmp : Cmp) (ra rb : ℕ) (offset : ℤ)
    → slice_get a.code x ≡ Some (Br cmp ra rb offset) → LeadsTo a x y → (y ≡ x + 1) ⊎ (y ≡ target_of a x offset)
leads-branch a x y cmp ra rb offset at (step.Onward p q j at' goes' to inside) = inl to
leads-branch a x y cmp ra rb offset at (step.Past p q c sa sb f at' to inside) = inl to
leads-branch a x y cmp ra rb offset at (step.Branched p q c sa sb f at' to inside) =
    let same = offset_once c cmp sa sb ra rb f offset (instr-once a x _ _ at' at) in
    inr (subst (λ (z : ℤ). y ≡ target_of a x z) same to)
leads-branch a x y cmp ra rb offset at (step.Jumped p q f at' to inside) =
    br_not_jmp cmp ra rb offset f (instr-once a x _ _ at at')

pub leads-jump : (a : Parts) (x y : ℕ) (offset : ℤ) → slice_get a.code x ≡ Some (Jmp offset) → LeadsTo a x y
    → y ≡ target_of a x offset
leads-jump a x y offset at (step.Onward p q j at' goes' to inside) =
    absurd (false≢true (ap only_goes_on (instr-once a x (Jmp offset) j at at') ∙ goes'))
leads-jump a x y offset at (step.Past p q c sa sb f at' to inside) = br_not_jmp c sa sb f offset
    (instr-once a x _ _ at' at)
leads-jump a x y offset at (step.Branched p q c sa sb f at' to inside) =
    br_not_jmp c sa sb f offset (instr-once a x _ _ at' at)
leads-jump a x y offset at (step.Jumped p q f at' to inside) =
    let same = same_jump f offset (instr-once a x _ _ at' at) in
    subst (λ (z : ℤ). y ≡ target_of a x z) same to

single_goes : (a : Parts) (s : SymState) (i : Instr) (pattern : Shown TreeEvent) (t : SymState)
    → single a s i ≡ Goes pattern t → only_goes_on i ≡ true
unfolding single
single_goes a s Halt pattern t e = absurd (let f : ◌≡◌ {A = Single} (Refuses _) (Goes pattern t) = e in cc)
single_goes a s (Jmp offset) pattern t e = absurd (let f : ◌≡◌ {A = Single} (Refuses _) (Goes pattern t) = e in cc)
single_goes a s (Br cmp ra rb offset) pattern t e =
    absurd (let f : ◌≡◌ {A = Single} (Branches offset) (Goes pattern t) = e in cc)
single_goes a s i pattern t e = refl

-- steps from the places of an arm lead forward, at most to its end; those from a region's places at most to its join
mutual
  pub walk-stays : (a : Parts) (depth end p : ℕ) (s : SymState) (pattern : Shown TreeEvent) (t : SymState)
      → WalksTo a depth end p s pattern t → (x y : ℕ) → p ≤ x → x < end → LeadsTo a x y → (x < y) × (y ≤ end)
  walk-stays a depth end p s pattern t (AtEnd d e s') x y from inside leads = absurd (omega arith)
  walk-stays a depth end p s pattern t (Onward d e p' s' i shown u rest v before at goes walk) x y from inside leads =
      by (cases_eq x p) (λ more. walk-stays a depth end (p + 1) u rest t walk x y more inside leads)
    where
      by : (x ≡ p) ⊎ (x ≡ p → ⊥) → (p + 1 ≤ x → (x < y) × (y ≤ end)) → (x < y) × (y ≤ end)
      by (inl e) more =
          let one = single_goes a s i shown u goes in
          let to = leads-plain a x y i (subst (λ (q : ℕ). slice_get a.code q ≡ Some i) (sym e) at) one leads in
          (omega arith, omega arith)
      by (inr ne) more = more (omega arith)
  walk-stays a depth end p s pattern t (Across d e p' s' cmp ra rb offset shown join u rest v before at crosses walk)
      x y from inside leads =
      let region = ends_ahead a depth end p offset s shown join u crosses in
      by region (cases_lt x join)
      (λ within. cross-stays a depth end p offset s shown join u cmp ra rb at crosses x y from within leads)
      (λ more. walk-stays a depth end join u rest t walk x y more inside leads)
    where
      by : (p < join) × (join ≤ end) → (x < join) ⊎ (join ≤ x) → (x < join → (x < y) × (y ≤ join))
          → (join ≤ x → (x < y) × (y ≤ end)) → (x < y) × (y ≤ end)
      by region (inl lt) within more = let h = within lt in (h.0, omega (arith, h.1, region.1))
      by region (inr le) within more = more le

  pub cross-stays : (a : Parts) (depth end p : ℕ) (offset : ℤ) (s : SymState) (pattern : Shown TreeEvent) (join : ℕ)
      (t : SymState) (cmp : Cmp) (ra rb : ℕ) → slice_get a.code p ≡ Some (Br cmp ra rb offset)
      → CrossesTo a depth end p offset s pattern join t → (x y : ℕ) → p ≤ x → x < join → LeadsTo a x y
      → (x < y) × (y ≤ join)
  cross-stays a depth end p offset s pattern join t cmp ra rb at
      (BothArms d e p' f s' second j' one left other right arms first behind ways) x y from inside leads =
      let r = shape-arms a depth end p offset second join arms in
      by r (cases_eq x p) (cases_lt x (second - 1)) (cases_eq x (second - 1))
      (λ le lt. walk-stays a (depth + 1) (second - 1) (p + 1) s one left first x y le lt leads)
      (λ le. walk-stays a (depth + 1) join second s other right behind x y le inside leads)
    where
      at_branch : (r : IsRegion a depth end p offset second join) → x ≡ p
          → (y ≡ x + 1) ⊎ (y ≡ target_of a x offset) → (x < y) × (y ≤ join)
      at_branch r e (inl to) = (omega arith, omega (arith, r.first, r.second))
      at_branch r e (inr to) =
          let t : target_of a x offset ≡ second = ap (λ (q : ℕ). target_of a q offset) e ∙ r.target in
          (omega (arith, t, r.first), omega (arith, t, r.second))

      by : (r : IsRegion a depth end p offset second join) → (x ≡ p) ⊎ (x ≡ p → ⊥)
          → (x < second - 1) ⊎ (second - 1 ≤ x) → (x ≡ second - 1) ⊎ (x ≡ second - 1 → ⊥)
          → (p + 1 ≤ x → x < second - 1 → (x < y) × (y ≤ second - 1)) → (second ≤ x → (x < y) × (y ≤ join))
          → (x < y) × (y ≤ join)
      by r (inl e) low jump one two =
          at_branch r e (leads-branch a x y cmp ra rb offset
          (subst (λ (q : ℕ). slice_get a.code q ≡ Some (Br cmp ra rb offset)) (sym e) at) leads)
      by r (inr ne) (inl lt) jump one two = let h = one (omega arith) lt in (h.0, omega (arith, h.1, r.second))
      by r (inr ne) (inr le) (inl e) one two =
          let j : slice_get a.code x ≡ Some (Jmp r.back) =
          subst (λ (q : ℕ). slice_get a.code q ≡ Some (Jmp r.back)) (sym e) r.jump in
          let to : y ≡ join = leads-jump a x y r.back j leads ∙ ap (λ (q : ℕ). target_of a q r.back) e ∙ r.joins in
          (omega (arith, to, r.first, r.second), omega (arith, to))
      by r (inr ne) (inr le) (inr other) one two = two (omega arith)
