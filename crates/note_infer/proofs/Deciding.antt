-- Whether what is known is carried over a region, and to what: this is decided by walking both arms.
use Rattle.std.proofs.Common.{◌≡◌, ℕ, zero, suc, ◌+◌, ◌-◌, ◌<◌, ◌≤◌, true, false, ℤ, length, slice_get, ◌⊎◌, inl, inr, Option, Some, None, refl, sym, ap, ◌∙◌, subst, ⊎_elim, arith}
use Rattle.std.proofs.lemmas.Bool.{cases_eq, cases_lt, false≢true}
use Rattle.gr_word.specs.declared.operations.Cmp.{Cmp}
use Rattle.lt_isa.specs.declared.instructions.Instr.{Instr}
use Rattle.lt_isa.specs.declared.instructions.Instr.TheVariants.{Halt, Jmp, Br}
use Rattle.lt_isa.specs.Prelude.{Parts}
use Rattle.trace_patterns.specs.declared.reasons.Reason.{Reason}
use Rattle.trace_patterns.specs.Prelude.{Known, SymState, at_entry, known_after, common, RegionShape, BadShape, Arms, shape, only_goes_on, held_behind, without_notes, CarriesTo, Arrived, Along, Through, CarriesOver, ByBoth, JoinsIn}
use Rattle.trace_patterns.proofs.Carries.{instr-once, br_goes_not, offset_once, arms-once, over-once}
use Rattle.trace_patterns.proofs.Shapes.{IsRegion, shape-arms}
use Rattle.region_walk.specs.Prelude.{IsCarriedTo}

-- an instruction by where it leads
pub data Leads (i : Instr) : Type 0 where
  GoesOn : only_goes_on i ≡ true → Leads i
  Halts : i ≡ Halt → Leads i
  Jumps : (offset : ℤ) → i ≡ Jmp offset → Leads i
  Branches : (cmp : Cmp) (ra rb : ℕ) (offset : ℤ) → i ≡ Br cmp ra rb offset → Leads i

pub leads : (i : Instr) → Leads i
leads Halt = Halts refl
leads (Jmp offset) = Jumps offset refl
leads (Br cmp ra rb offset) = Branches cmp ra rb offset refl
leads _ = GoesOn refl

-- a state is carried, or none is
abbrev Led : Parts → (depth end p : ℕ) → SymState → Type 0
Led o depth end p s = ((t : SymState) × CarriesTo o depth end p s t)
    ⊎ ((t : SymState) → CarriesTo o depth end p s t → ⊥)

-- over a region, with what its shape says
record IsOver (o : Parts) (depth end p : ℕ) (offset : ℤ) (s : SymState) : Type 0 where
  join : ℕ
  state : SymState
  over : CarriesOver o depth end p offset s join state
  behind : p + 1 < join
  inside : join < length o.code

abbrev LedOver : Parts → (depth end p : ℕ) → ℤ → SymState → Type 0
LedOver o depth end p offset s = IsOver o depth end p offset s
    ⊎ ((join : ℕ) (t : SymState) → CarriesOver o depth end p offset s join t → ⊥)

pub halt_not : {A : Type 0} (c : Cmp) (ra rb : ℕ) (x : ℤ) → Halt ≡ Br c ra rb x → A
halt_not c ra rb x e = absurd cc

pub jump_not : {A : Type 0} (y : ℤ) (c : Cmp) (ra rb : ℕ) (x : ℤ) → Jmp y ≡ Br c ra rb x → A
jump_not y c ra rb x e = absurd cc

no_instr : {A : Type 0} (i : Instr) → ◌≡◌ {A = Option Instr} None (Some i) → A
no_instr i e = absurd cc

bad_not : {A : Type 0} (place : ℕ) (reason : Reason) (a b : ℕ) → BadShape place reason ≡ Arms a b → A
bad_not place reason a b e = absurd cc

-- nothing is carried past an end, from outside the code, and from a halt or a jump
past : (o : Parts) (depth end p : ℕ) (s t : SymState) → end < p → CarriesTo o depth end p s t → ⊥
past o depth end p s t lt (Arrived d e p' s' at) = omega (arith, lt, at)
past o depth end p s t lt (Along d e p' s' i t' before at goes rest) = omega (arith, lt, before)
past o depth end p s t lt (Through d e p' s' cmp ra rb offset join u t' before at over rest) =
    omega (arith, lt, before)

stuck : (o : Parts) (depth end p : ℕ) (s t : SymState) → p < end
    → ((i : Instr) → slice_get o.code p ≡ Some i → only_goes_on i ≡ true → ⊥)
    → ((cmp : Cmp) (ra rb : ℕ) (offset : ℤ) → slice_get o.code p ≡ Some (Br cmp ra rb offset) → ⊥)
    → CarriesTo o depth end p s t → ⊥
stuck o depth end p s t lt goes_not br_not (Arrived d e p' s' at) = omega (arith, lt, at)
stuck o depth end p s t lt goes_not br_not (Along d e p' s' i t' before at goes rest) = goes_not i at goes
stuck o depth end p s t lt goes_not br_not (Through d e p' s' cmp ra rb offset join u t' before at over rest) =
    br_not cmp ra rb offset at

-- what is carried along one instruction, and through one region
along : (o : Parts) (depth end p : ℕ) (s : SymState) (i : Instr) (t : SymState) → p < end
    → slice_get o.code p ≡ Some i → only_goes_on i ≡ true → CarriesTo o depth end p s t
    → CarriesTo o depth end (p + 1) (held_behind o s i) t
along o depth end p s i t lt code goes (Arrived d e p' s' at) = absurd (omega (arith, lt, at))
along o depth end p s i t lt code goes (Along d e p' s' j t' before at goes' rest) =
    subst (λ (x : Instr). CarriesTo o depth end (p + 1) (held_behind o s x) t) (instr-once o p j i at code) rest
along o depth end p s i t lt code goes (Through d e p' s' cmp ra rb offset join u t' before at over rest) =
    br_goes_not o p i cmp ra rb offset code at goes

record IsThrough (o : Parts) (depth end p : ℕ) (offset : ℤ) (s t : SymState) : Type 0 where
  join : ℕ
  state : SymState
  over : CarriesOver o depth end p offset s join state
  rest : CarriesTo o depth end join state t

through : (o : Parts) (depth end p : ℕ) (s : SymState) (cmp : Cmp) (ra rb : ℕ) (offset : ℤ) (t : SymState) → p < end
    → slice_get o.code p ≡ Some (Br cmp ra rb offset) → CarriesTo o depth end p s t
    → IsThrough o depth end p offset s t
through o depth end p s cmp ra rb offset t lt code (Arrived d e p' s' at) = absurd (omega (arith, lt, at))
through o depth end p s cmp ra rb offset t lt code (Along d e p' s' j t' before at goes rest) =
    br_goes_not o p j cmp ra rb offset at code goes
through o depth end p s cmp ra rb offset t lt code (Through d e p' s' c sa sb x join u t' before at over rest) =
    let same = offset_once c cmp sa sb ra rb x offset (instr-once o p (Br c sa sb x) (Br cmp ra rb offset) at code) in
    record {
      join = join;
      state = u;
      over = subst (λ (z : ℤ). CarriesOver o depth end p z s join u) same over;
      rest = rest;
    }

-- both arms of a region
record IsBoth (o : Parts) (depth end p : ℕ) (s : SymState) (second join : ℕ) : Type 0 where
  left : SymState
  right : SymState
  first : CarriesTo o (depth + 1) (second - 1) (p + 1) s left
  behind : CarriesTo o (depth + 1) join second s right

both : (o : Parts) (depth end p : ℕ) (offset : ℤ) (s : SymState) (second join join' : ℕ) (t : SymState)
    → shape (without_notes o) depth end p offset ≡ Arms second join → CarriesOver o depth end p offset s join' t
    → IsBoth o depth end p s second join
both o depth end p offset s second join join' t shaped (ByBoth d e p' f s' second' j left right arms first behind) =
    let same = arms-once second' join' second join (sym arms ∙ shaped) in
    record {
      left = left;
      right = right;
      first = subst (λ (q : ℕ). CarriesTo o (depth + 1) (q - 1) (p + 1) s left) same.0 first;
      behind = subst (λ (q : ℕ). CarriesTo o (depth + 1) join q s right) same.0
          (subst (λ (q : ℕ). CarriesTo o (depth + 1) q second' s right) same.1 behind);
    }

bad_shape : (o : Parts) (depth end p : ℕ) (offset : ℤ) (s : SymState) (join : ℕ) (t : SymState) (made : RegionShape)
    → shape (without_notes o) depth end p offset ≡ made → ((a b : ℕ) → made ≡ Arms a b → ⊥)
    → CarriesOver o depth end p offset s join t → ⊥
bad_shape o depth end p offset s join t made is none (ByBoth d e p' f s' second j left right arms first behind) =
    none second join (sym is ∙ arms)

-- over a region, if it is decided for each shorter stretch
over_by : (o : Parts) (fuel depth end p : ℕ) (offset : ℤ) (s : SymState)
    → ((depth end p : ℕ) (s : SymState) → end ≤ p + fuel → Led o depth end p s)
    → end ≤ p + 1 + fuel → LedOver o depth end p offset s
over_by o fuel depth end p offset s again le = by (shape (without_notes o) depth end p offset) refl
  where
    two : (second join : ℕ) → shape (without_notes o) depth end p offset ≡ Arms second join
        → IsRegion (without_notes o) depth end p offset second join
        → Led o (depth + 1) (second - 1) (p + 1) s → Led o (depth + 1) join second s → LedOver o depth end p offset s
    two second join is region (inr none) right =
        inr (λ j t c. let b = both o depth end p offset s second join j t is c in none b.left b.first)
    two second join is region (inl l) (inr none) =
        inr (λ j t c. let b = both o depth end p offset s second join j t is c in none b.right b.behind)
    two second join is region (inl l) (inl r) = inl (record {
      join = join;
      state = common l.0 r.0;
      over = ByBoth depth end p offset s second join l.0 r.0 is l.1 r.1;
      behind = omega (arith, region.first, region.second);
      inside = region.in_code;
    })

    by : (made : RegionShape) → shape (without_notes o) depth end p offset ≡ made → LedOver o depth end p offset s
    by (BadShape place reason) is =
        inr (λ j t c. bad_shape o depth end p offset s j t (BadShape place reason) is (λ a b e. bad_not place reason a b e) c)
    by (Arms second join) is =
        let region = shape-arms (without_notes o) depth end p offset second join is in
        two second join is region
        (again (depth + 1) (second - 1) (p + 1) s (omega (arith, region.second, region.ends, le)))
        (again (depth + 1) join second s (omega (arith, region.first, region.ends, le)))

-- over one place, if it is decided for each shorter stretch
step : (o : Parts) (n depth end p : ℕ) (s : SymState)
    → ((depth end p : ℕ) (s : SymState) → end ≤ p + n → Led o depth end p s)
    → end ≤ p + 1 + n → p < end → Led o depth end p s
step o n depth end p s again few lt = on (slice_get o.code p) refl
  where
    goes : (i : Instr) → slice_get o.code p ≡ Some i → only_goes_on i ≡ true
        → Led o depth end (p + 1) (held_behind o s i) → Led o depth end p s
    goes i at g (inl r) = inl (r.0, Along depth end p s i r.0 lt at g r.1)
    goes i at g (inr none) = inr (λ t c. none t (along o depth end p s i t lt at g c))

    onward : (cmp : Cmp) (ra rb : ℕ) (offset : ℤ) → slice_get o.code p ≡ Some (Br cmp ra rb offset)
        → (m : IsOver o depth end p offset s) → Led o depth end m.join m.state → Led o depth end p s
    onward cmp ra rb offset at m (inl r) =
        inl (r.0, Through depth end p s cmp ra rb offset m.join m.state r.0 lt at m.over r.1)
    onward cmp ra rb offset at m (inr none) = inr (λ t c.
        let h = through o depth end p s cmp ra rb offset t lt at c in
        let same = over-once o depth end p offset s h.join m.join h.state m.state h.over m.over in
        none t (subst (λ (q : ℕ). CarriesTo o depth end q m.state t) same.0
        (subst (λ (x : SymState). CarriesTo o depth end h.join x t) same.1 h.rest)))

    branches : (cmp : Cmp) (ra rb : ℕ) (offset : ℤ) → slice_get o.code p ≡ Some (Br cmp ra rb offset)
        → LedOver o depth end p offset s → Led o depth end p s
    branches cmp ra rb offset at (inl m) =
        onward cmp ra rb offset at m (again depth end m.join m.state (omega (arith, m.behind, few)))
    branches cmp ra rb offset at (inr none) = inr (λ t c.
        let h = through o depth end p s cmp ra rb offset t lt at c in none h.join h.state h.over)

    halted : (i j : Instr) → slice_get o.code p ≡ Some i → slice_get o.code p ≡ Some j → only_goes_on i ≡ false
        → only_goes_on j ≡ true → ⊥
    halted i j at at' stops g = false≢true (sym stops ∙ ap only_goes_on (instr-once o p i j at at') ∙ g)

    kinds : (i : Instr) → slice_get o.code p ≡ Some i → Leads i → Led o depth end p s
    kinds i at (GoesOn g) = goes i at g (again depth end (p + 1) (held_behind o s i) (omega (arith, few)))
    kinds i at (Halts e) = inr (λ t c. stuck o depth end p s t lt
        (λ j at' g. halted i j at at' (ap only_goes_on e) g)
        (λ cmp ra rb x at'. halt_not cmp ra rb x (sym e ∙ instr-once o p i (Br cmp ra rb x) at at')) c)
    kinds i at (Jumps y e) = inr (λ t c. stuck o depth end p s t lt
        (λ j at' g. halted i j at at' (ap only_goes_on e) g)
        (λ cmp ra rb x at'. jump_not y cmp ra rb x (sym e ∙ instr-once o p i (Br cmp ra rb x) at at')) c)
    kinds i at (Branches cmp ra rb x e) =
        branches cmp ra rb x (at ∙ ap Some e) (over_by o n depth end p x s again few)

    on : (i : Option Instr) → slice_get o.code p ≡ i → Led o depth end p s
    on None at = inr (λ t c. stuck o depth end p s t lt
        (λ j at' g. no_instr j (sym at ∙ at'))
        (λ cmp ra rb x at'. no_instr (Br cmp ra rb x) (sym at ∙ at')) c)
    on (Some i) at = kinds i at (leads i)

-- up to an end
arrived : (o : Parts) (depth end p : ℕ) (s : SymState) → end ≤ p → Led o depth end p s
arrived o depth end p s ge = by (cases_eq p end)
  where
    by : (p ≡ end) ⊎ (p ≡ end → ⊥) → Led o depth end p s
    by (inl e) = inl (s, Arrived depth end p s e)
    by (inr ne) = inr (λ t c. past o depth end p s t (omega (arith, ge, ne)) c)

led : (o : Parts) (n depth end p : ℕ) (s : SymState) → end ≤ p + n → Led o depth end p s
led o zero depth end p s le = arrived o depth end p s (omega (arith, le))
led o (suc n) depth end p s le =
    ⊎_elim (λ (lt : p < end). step o n depth end p s (λ d e q t few. led o n d e q t few) (omega (arith, le)) lt)
    (λ (ge : end ≤ p). arrived o depth end p s ge) (cases_lt p end)

-- over the region of a branch in public code
pub record IsCarriedSome (o : Parts) (p : ℕ) (offset : ℤ) (k : Known) : Type 0 where
  pub join : ℕ
  pub next : Known
  pub carried : IsCarriedTo o p offset k join next

pub carried_or_not : (o : Parts) (p : ℕ) (offset : ℤ) (k : Known) → IsCarriedSome o p offset k
    ⊎ ((join : ℕ) (next : Known) → JoinsIn o p offset k join next → ⊥)
carried_or_not o p offset k =
    by (over_by o (length o.code) 0 (length o.code - 1) p offset (at_entry k)
    (λ d e q s le. led o (length o.code) d e q s le) (omega arith))
  where
    by : LedOver o 0 (length o.code - 1) p offset (at_entry k) → IsCarriedSome o p offset k
        ⊎ ((join : ℕ) (next : Known) → JoinsIn o p offset k join next → ⊥)
    by (inl m) = inl (record {
      join = m.join;
      next = known_after m.state;
      carried = record {
        joins = record { state = m.state; over = m.over; next_is = refl };
        behind = m.behind;
        inside = m.inside;
      };
    })
    by (inr none) = inr (λ join next j. none join j.state j.over)
