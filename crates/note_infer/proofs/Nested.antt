-- A branch within a region whose own region is shaped joins within it. So a region that begins outside another one, and
-- isn't around it, doesn't join within it.
use Rattle.std.proofs.Common.{◌≡◌, ℕ, ◌+◌, ◌-◌, ◌<◌, ◌≤◌, ℤ, slice_get, Some, sym, ap, ◌∙◌, subst, ⊎_elim, arith}
use Rattle.std.proofs.lemmas.Bool.{cases_lt, cases_eq}
use Rattle.gr_word.specs.declared.operations.Cmp.{Cmp}
use Rattle.lt_isa.specs.declared.instructions.Instr.TheVariants.{Jmp, Br}
use Rattle.lt_isa.specs.Prelude.{Parts, target_of}
use Rattle.trace_patterns.specs.Prelude.{SymState, CarriesTo, Arrived, Along, Through, CarriesOver, ByBoth, without_notes}
use Rattle.trace_patterns.proofs.Carries.{instr-once, offset_once}
use Rattle.trace_patterns.proofs.Shapes.{IsRegion, shape-arms}
use Rattle.note_infer.proofs.Looking.{br_not}
use Rattle.note_infer.proofs.SameParts.{br_not_jmp, same_jump}

-- the join of a region is one
pub region-once : (o : Parts) (d e d' e' p : ℕ) (offset : ℤ) (t join t' join' : ℕ)
    → IsRegion (without_notes o) d e p offset t join → IsRegion (without_notes o) d' e' p offset t' join' → join ≡ join'
region-once o d e d' e' p offset t join t' join' r r' =
    let same : t ≡ t' = sym r.target ∙ r'.target in
    let back : r.back ≡ r'.back = same_jump r.back r'.back (instr-once o (t' - 1) (Jmp r.back) (Jmp r'.back)
    (subst (λ (x : ℕ). slice_get o.code (x - 1) ≡ Some (Jmp r.back)) same r.jump) r'.jump) in
    sym r.joins ∙ ap (λ (x : ℕ). target_of o (x - 1) r.back) same ∙ ap (target_of o (t' - 1)) back ∙ r'.joins

pub region_over : (o : Parts) (depth end p : ℕ) (offset : ℤ) (s : SymState) (join : ℕ) (t : SymState)
    → CarriesOver o depth end p offset s join t
    → (second : ℕ) × IsRegion (without_notes o) depth end p offset second join
region_over o depth end p offset s join t (ByBoth d e p' f s' second j left right shaped first behind) =
    (second, shape-arms (without_notes o) depth end p offset second join shaped)

module _ (o : Parts) (x : ℕ) (cmp : Cmp) (ra rb : ℕ) (offset : ℤ)
    (branch : slice_get o.code x ≡ Some (Br cmp ra rb offset)) (depth_in end_in second_in join_in : ℕ)
    (region : IsRegion (without_notes o) depth_in end_in x offset second_in join_in) where
  mutual
    nested_to : (depth end p : ℕ) (s t : SymState) → CarriesTo o depth end p s t → p ≤ x → x < end → join_in ≤ end
    nested_to depth end p s t (Arrived d e p' s' at) le lt = absurd (omega (arith, at, le, lt))
    nested_to depth end p s t (Along d e p' s' i t' before at goes rest) le lt =
        ⊎_elim
        (λ (same : p ≡ x).
        br_not cmp ra rb offset i (instr-once o x i (Br cmp ra rb offset)
        (subst (λ (y : ℕ). slice_get o.code y ≡ Some i) same at) branch) goes)
        (λ (ne : p ≡ x → ⊥).
        nested_to depth end (p + 1) _ t rest (omega (arith, le, ne)) lt)
        (cases_eq p x)
    nested_to depth end p s t (Through d e p' s' c sa sb f join u t' before at over rest) le lt =
        let outer = region_over o depth end p f s join u over in
        ⊎_elim
        (λ (same : p ≡ x).
        let code = subst (λ (y : ℕ). slice_get o.code y ≡ Some (Br c sa sb f)) same at in
        let off = offset_once c cmp sa sb ra rb f offset
        (instr-once o x (Br c sa sb f) (Br cmp ra rb offset) code branch) in
        let here = subst (λ (y : ℕ). IsRegion (without_notes o) depth end y f outer.0 join) same outer.1 in
        let there = subst (λ (z : ℤ). IsRegion (without_notes o) depth end x z outer.0 join) off here in
        omega (
          arith,
          region-once o depth end depth_in end_in x offset outer.0 join second_in join_in there region,
          outer.1.ends,
        ))
        (λ (ne : p ≡ x → ⊥).
        ⊎_elim
        (λ (less : x < join).
        omega (arith, nested_over depth end p f s join u over (omega (arith, le, ne)) less, outer.1.ends))
        (λ (more : join ≤ x). nested_to depth end join u t rest more lt)
        (cases_lt x join))
        (cases_eq p x)

    pub nested_over : (depth end p : ℕ) (f : ℤ) (s : SymState) (join : ℕ) (t : SymState)
        → CarriesOver o depth end p f s join t → p < x → x < join → join_in ≤ join
    nested_over depth end p f s join t (ByBoth d e p' f' s' second j left right shaped first behind) lt less =
        let outer = shape-arms (without_notes o) depth end p f second join shaped in
        ⊎_elim
        (λ (low : x < second - 1).
        omega (arith, nested_to (depth + 1) (second - 1) (p + 1) s left first (omega (arith, lt)) low, outer.second))
        (λ (high : second - 1 ≤ x).
        ⊎_elim
        (λ (same : x ≡ second - 1).
        br_not_jmp cmp ra rb offset outer.back
        (instr-once o x (Br cmp ra rb offset) (Jmp outer.back) branch
        (subst (λ (y : ℕ). slice_get o.code y ≡ Some (Jmp outer.back)) (sym same) outer.jump)))
        (λ (ne : x ≡ second - 1 → ⊥).
        nested_to (depth + 1) join second s right behind (omega (arith, high, ne, outer.first)) less)
        (cases_eq x (second - 1)))
        (cases_lt x (second - 1))
