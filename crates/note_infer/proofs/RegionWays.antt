-- The ways of a region's places when its branch joins: from other places they stay as they are, and from outside they lead
-- into the region only by jumps and branches.
use Rattle.std.proofs.Common.{◌≡◌, ℕ, ◌+◌, ◌-◌, ◌<◌, ◌≤◌, Bool, ℤ, List, [], ◌∷◌, length, slice_get, Option, Some, refl, sym, ap, ◌∙◌, subst, ⊎_elim, arith}
use Rattle.std.specs.Prelude.{◌||◌}
use Rattle.std.proofs.lemmas.Bool.{cases_lt, ne_eqb}
use Rattle.gr_word.specs.declared.operations.Cmp.{Cmp}
use Rattle.lt_isa.specs.declared.instructions.Instr.TheVariants.{Jmp, Br}
use Rattle.lt_isa.specs.Prelude.{Parts}
use Rattle.trace_patterns.specs.Prelude.{Known, SymState, at_entry, CarriesOver, without_notes}
use Rattle.trace_patterns.proofs.Carries.{instr-once}
use Rattle.trace_patterns.proofs.Shapes.{IsRegion}
use Rattle.note_infer.specs.Prelude.{is_crossed, PublicWay, Next, Skips, Branches, Jumps, Crosses, MayJoinTo, IsTargetOf, ByJump, ByBranch}
use Rattle.note_infer.proofs.Nested.{region_over, nested_over}
use Rattle.note_infer.proofs.SameParts.{br_not_jmp}

-- a branch is crossed, with one more, where it was or is that one
pub crossed_more : (crossed : List ℕ) (place r : ℕ) → (r ≡ place → ⊥)
    → is_crossed (place ∷ crossed) r ≡ is_crossed crossed r
crossed_more crossed place r ne = ap (λ (b : Bool). b || is_crossed crossed r) (ne_eqb place r (λ e. ne (sym e)))

-- a way from another place is one with one more branch too
pub way_more : (o : Parts) (crossed : List ℕ) (place r : ℕ) (j : Known) (q : ℕ) (next : Known) → (r ≡ place → ⊥)
    → PublicWay o crossed r j q next → PublicWay o (place ∷ crossed) r j q next
way_more o crossed place r j q next ne (Next p' k' q' n' i c g to inside is) = Next r j q next i c g to inside is
way_more o crossed place r j q next ne (Skips p' k' q' n' cmp ra rb x c apart to inside is) =
    Skips r j q next cmp ra rb x c (crossed_more crossed place r ne ∙ apart) to inside is
way_more o crossed place r j q next ne (Branches p' k' q' n' cmp ra rb x c apart to inside is) =
    Branches r j q next cmp ra rb x c (crossed_more crossed place r ne ∙ apart) to inside is
way_more o crossed place r j q next ne (Jumps p' k' q' n' x c to inside is) = Jumps r j q next x c to inside is
way_more o crossed place r j q next ne (Crosses p' k' q' n' cmp ra rb x c among joins) =
    Crosses r j q next cmp ra rb x c (crossed_more crossed place r ne ∙ among) joins

pub way_fewer : (o : Parts) (crossed : List ℕ) (place r : ℕ) (j : Known) (q : ℕ) (next : Known) → (r ≡ place → ⊥)
    → PublicWay o (place ∷ crossed) r j q next → PublicWay o crossed r j q next
way_fewer o crossed place r j q next ne (Next p' k' q' n' i c g to inside is) = Next r j q next i c g to inside is
way_fewer o crossed place r j q next ne (Skips p' k' q' n' cmp ra rb x c apart to inside is) =
    Skips r j q next cmp ra rb x c (sym (crossed_more crossed place r ne) ∙ apart) to inside is
way_fewer o crossed place r j q next ne (Branches p' k' q' n' cmp ra rb x c apart to inside is) =
    Branches r j q next cmp ra rb x c (sym (crossed_more crossed place r ne) ∙ apart) to inside is
way_fewer o crossed place r j q next ne (Jumps p' k' q' n' x c to inside is) = Jumps r j q next x c to inside is
way_fewer o crossed place r j q next ne (Crosses p' k' q' n' cmp ra rb x c among joins) =
    Crosses r j q next cmp ra rb x c (sym (crossed_more crossed place r ne) ∙ among) joins

pub region_at : (o : Parts) (p : ℕ) (offset : ℤ) (s : SymState) (join : ℕ) (t : SymState)
    → CarriesOver o 0 (length o.code - 1) p offset s join t
    → (second : ℕ) × IsRegion (without_notes o) 0 (length o.code - 1) p offset second join
region_at o p offset s join t over = region_over o 0 (length o.code - 1) p offset s join t over

-- the join of a branch that may join is after it, in the code
pub joins_within : (o : Parts) (crossed : List ℕ) (states : List (Option Known)) (place join : ℕ)
    → MayJoinTo o crossed states place join → (place < join) × (join < length o.code)
joins_within o crossed states place join h =
    let m = h.may in
    let region = region_at o place m.offset (at_entry m.known) m.join m.shaped.state m.shaped.over in (
      omega (arith, h.joins, region.1.first, region.1.second),
      omega (arith, h.joins, region.1.in_code),
    )

-- a step to the next place doesn't lead into a region from outside, but from its branch
next_outside : (place bound r q : ℕ) → q ≡ r + 1 → (r ≡ place → ⊥) → (place < r → r < bound → ⊥) → place < q
    → q < bound → ⊥
next_outside place bound r q to ne out lt le =
    ⊎_elim (λ (less : place < r). out less (omega (arith, to, le)))
    (λ (more : r ≤ place). ne (omega (arith, to, lt, more)))
    (cases_lt place r)

-- No way leads from elsewhere to a place between the branch and a bound.
module _ (o : Parts) (crossed : List ℕ) (place bound : ℕ) (cmp : Cmp) (ra rb : ℕ) (offset : ℤ)
    (branch : slice_get o.code place ≡ Some (Br cmp ra rb offset))
    (entered : (p q : ℕ) → place < q → q < bound → IsTargetOf o [] p q → (place ≤ p) × (p < q)) where
  far_outside : (r q : ℕ) → IsTargetOf o [] r q → (r ≡ place → ⊥) → (place < r → r < bound → ⊥) → place < q → q < bound
      → ⊥
  far_outside r q far ne out lt le =
      let h = entered r q lt le far in
      ⊎_elim
      (λ (less : place < r). out less (omega (arith, h.1, le)))
      (λ (more : r ≤ place). ne (omega (arith, h.0, more)))
      (cases_lt place r)

  over_outside : (r q second : ℕ) (d : Cmp) (sa sb : ℕ) (x : ℤ) → slice_get o.code r ≡ Some (Br d sa sb x)
      → IsRegion (without_notes o) 0 (length o.code - 1) r x second q
      → (r ≡ place → ⊥) → (place < r → r < bound → ⊥) → place < q → q < bound → ⊥
  over_outside r q second d sa sb x at region ne out lt le =
      let jumped = entered (second - 1) q lt le
      (ByJump (second - 1) q region.back region.jump (sym region.joins) region.in_code) in
      ⊎_elim
      (λ (less : place < r). out less (omega (arith, region.first, region.second, le)))
      (λ (more : r ≤ place).
      ⊎_elim
      (λ (less : place < second - 1).
      far_outside r second (ByBranch r second d sa sb x at refl (sym region.target)
      (omega (arith, region.second, region.in_code))) ne out (omega (arith, less))
      (omega (arith, region.second, le)))
      (λ (few : second - 1 ≤ place).
      let same : second - 1 ≡ place = omega (arith, few, jumped.0) in
      br_not_jmp cmp ra rb offset region.back
      (instr-once o place (Br cmp ra rb offset) (Jmp region.back) branch
      (subst (λ (y : ℕ). slice_get o.code y ≡ Some (Jmp region.back)) same region.jump)))
      (cases_lt place (second - 1)))
      (cases_lt place r)

  pub ways_outside : (r q : ℕ) (j next : Known) → PublicWay o crossed r j q next → (r ≡ place → ⊥)
      → (place < r → r < bound → ⊥) → place < q → q < bound → ⊥
  ways_outside r q j next (Next p' k' q' n' i c g to inside is) ne out lt le =
      next_outside place bound r q to ne out lt le
  ways_outside r q j next (Skips p' k' q' n' d sa sb x c free to inside is) ne out lt le =
      next_outside place bound r q to ne out lt le
  ways_outside r q j next (Branches p' k' q' n' d sa sb x c free to inside is) ne out lt le =
      far_outside r q (ByBranch r q d sa sb x c refl to inside) ne out lt le
  ways_outside r q j next (Jumps p' k' q' n' x c to inside is) ne out lt le =
      far_outside r q (ByJump r q x c to inside) ne out lt le
  ways_outside r q j next (Crosses p' k' q' n' d sa sb x c among joins) ne out lt le =
      let region = region_at o r x (at_entry j) q joins.state joins.over in
      over_outside r q region.0 d sa sb x c region.1 ne out lt le

-- The ways that lead into the region from outside it are jumps, and branches that aren't crossed.
module _ (o : Parts) (crossed : List ℕ) (place join : ℕ) (cmp : Cmp) (ra rb : ℕ) (offset : ℤ)
    (branch : slice_get o.code place ≡ Some (Br cmp ra rb offset)) (second : ℕ)
    (region : IsRegion (without_notes o) 0 (length o.code - 1) place offset second join) where
  over_inside : (r q : ℕ) (x : ℤ) (s t : SymState) → CarriesOver o 0 (length o.code - 1) r x s q t → (r ≡ place → ⊥)
      → (place < r → r < join → ⊥) → place < q → q < join → ⊥
  over_inside r q x s t over ne out lt le =
      let crossing = region_at o r x s q t over in
      ⊎_elim
      (λ (less : place < r). out less (omega (arith, crossing.1.first, crossing.1.second, le)))
      (λ (more : r ≤ place).
      let outer = nested_over o place cmp ra rb offset branch 0 (length o.code - 1) second join region 0
      (length o.code - 1) r x s q t over (omega (arith, more, ne)) lt in
      omega (arith, outer, le))
      (cases_lt place r)

  pub ways_inside : (r q : ℕ) (j next : Known) → PublicWay o crossed r j q next → (r ≡ place → ⊥)
      → (place < r → r < join → ⊥) → place < q → q < join → IsTargetOf o [] r q
  ways_inside r q j next (Next p' k' q' n' i c g to inside is) ne out lt le =
      absurd (next_outside place join r q to ne out lt le)
  ways_inside r q j next (Skips p' k' q' n' d sa sb x c free to inside is) ne out lt le =
      absurd (next_outside place join r q to ne out lt le)
  ways_inside r q j next (Branches p' k' q' n' d sa sb x c free to inside is) ne out lt le =
      ByBranch r q d sa sb x c refl to inside
  ways_inside r q j next (Jumps p' k' q' n' x c to inside is) ne out lt le = ByJump r q x c to inside
  ways_inside r q j next (Crosses p' k' q' n' d sa sb x c among joins) ne out lt le =
      absurd (over_inside r q x (at_entry j) joins.state joins.over ne out lt le)
