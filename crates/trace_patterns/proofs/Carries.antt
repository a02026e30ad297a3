-- What is carried from related states is related, and at most one state is carried from a state.
use Rattle.std.proofs.Common.{◌≡◌, ℕ, ◌+◌, ◌-◌, ℤ, true, false, slice_get, Option, Some, refl, sym, ap, ◌∙◌, subst, arith}
use Rattle.gr_word.specs.declared.operations.Cmp.{Cmp}
use Rattle.lt_isa.specs.declared.instructions.Instr.{Instr}
use Rattle.lt_isa.specs.declared.instructions.Instr.TheVariants.{Br}
use Rattle.lt_isa.specs.Prelude.{Parts}
use Rattle.trace_patterns.specs.Prelude.{SymState, common, Arms, only_goes_on, held_behind, CarriesTo, Arrived, Along, Through, CarriesOver, ByBoth}

-- If one instruction and a join keep a relation, what is carried from two related states is related.
module _ (o : Parts) (R : SymState → SymState → Type 0)
    (held : (s t : SymState) (i : Instr) (p : ℕ) → slice_get o.code p ≡ Some i → R s t
    → R (held_behind o s i) (held_behind o t i))
    (both : (s s' t t' : SymState) → R s s' → R t t' → R (common s t) (common s' t')) where
  pub record CarriedWith (depth end p : ℕ) (other t : SymState) : Type 0 where
    pub state : SymState
    pub carried : CarriesTo o depth end p other state
    pub related : R state t

  pub record OverWith (depth end p : ℕ) (offset : ℤ) (other : SymState) (join : ℕ) (t : SymState) : Type 0 where
    pub state : SymState
    pub carried : CarriesOver o depth end p offset other join state
    pub related : R state t

  mutual
    pub carries-with : (depth end p : ℕ) (s t other : SymState) → CarriesTo o depth end p s t → R other s
        → CarriedWith depth end p other t
    carries-with depth end p s t other (Arrived d e p' s' at) h =
        record { state = other; carried = Arrived depth end p other at; related = h }
    carries-with depth end p s t other (Along d e p' s' i t' before at goes rest) h =
        let r = carries-with depth end (p + 1) (held_behind o s i) t (held_behind o other i) rest
        (held other s i p at h) in
        record {
          state = r.state;
          carried = Along depth end p other i r.state before at goes r.carried;
          related = r.related;
        }
    carries-with depth end p s t other (Through d e p' s' cmp ra rb offset join u t' before at over rest) h =
        let m = over-with depth end p offset s join u other over h in
        let r = carries-with depth end join u t m.state rest m.related in
        record {
          state = r.state;
          carried = Through depth end p other cmp ra rb offset join m.state r.state before at m.carried r.carried;
          related = r.related;
        }

    pub over-with : (depth end p : ℕ) (offset : ℤ) (s : SymState) (join : ℕ) (t other : SymState)
        → CarriesOver o depth end p offset s join t → R other s → OverWith depth end p offset other join t
    over-with depth end p offset s join t other (ByBoth d e p' f s' second join' left right arms first behind) h =
        let l = carries-with (depth + 1) (second - 1) (p + 1) s left other first h in
        let r = carries-with (depth + 1) join second s right other behind h in
        record {
          state = common l.state r.state;
          carried = ByBoth depth end p offset other second join l.state r.state arms l.carried r.carried;
          related = both l.state left r.state right l.related r.related;
        }

-- a place has at most one instruction
pub instr-once : (o : Parts) (p : ℕ) (i j : Instr) → slice_get o.code p ≡ Some i → slice_get o.code p ≡ Some j → i ≡ j
instr-once o p i j e f = let g : ◌≡◌ {A = Option Instr} (Some i) (Some j) = sym e ∙ f in cc

pub br_goes_not : {A : Type 0} (o : Parts) (p : ℕ) (i : Instr) (cmp : Cmp) (ra rb : ℕ) (offset : ℤ)
    → slice_get o.code p ≡ Some i → slice_get o.code p ≡ Some (Br cmp ra rb offset) → only_goes_on i ≡ true → A
br_goes_not o p i cmp ra rb offset e f goes =
    absurd (let g : false ≡ true = ap only_goes_on (sym (instr-once o p i (Br cmp ra rb offset) e f)) ∙ goes in cc)

pub offset_once : (c d : Cmp) (ra rb sa sb : ℕ) (x y : ℤ) → Br c ra rb x ≡ Br d sa sb y → x ≡ y
offset_once c d ra rb sa sb x y e = cc

-- a shape determines the beginning of the second arm and the join
pub arms-once : (a b c d : ℕ) → Arms a b ≡ Arms c d → (a ≡ c) × (b ≡ d)
arms-once a b c d e = (cc, cc)

mutual
  -- at most one state is carried from a state
  pub carries-once : (o : Parts) (depth end p : ℕ) (s t u : SymState) → CarriesTo o depth end p s t
      → CarriesTo o depth end p s u → t ≡ u
  carries-once o depth end p s t u (Arrived d e p' s' at) (Arrived d1 e1 p1 s1 at1) = refl
  carries-once o depth end p s t u (Arrived d e p' s' at) (Along d1 e1 p1 s1 i t1 before at1 goes rest) =
      absurd (omega arith)
  carries-once o depth end p s t u (Arrived d e p' s' at)
      (Through d1 e1 p1 s1 cmp ra rb offset join v t1 before at1 over rest) = absurd (omega arith)
  carries-once o depth end p s t u (Along d e p' s' i t' before at goes rest) (Arrived d1 e1 p1 s1 at1) =
      absurd (omega arith)
  carries-once o depth end p s t u (Along d e p' s' i t' before at goes rest)
      (Along d1 e1 p1 s1 j t1 before1 at1 goes1 rest1) =
      carries-once o depth end (p + 1) (held_behind o s i) t u rest
      (subst (λ (x : Instr). CarriesTo o depth end (p + 1) (held_behind o s x) u) (instr-once o p j i at1 at) rest1)
  carries-once o depth end p s t u (Along d e p' s' i t' before at goes rest)
      (Through d1 e1 p1 s1 cmp ra rb offset join v t1 before1 at1 over1 rest1) =
      br_goes_not o p i cmp ra rb offset at at1 goes
  carries-once o depth end p s t u (Through d e p' s' cmp ra rb offset join w t' before at over rest)
      (Arrived d1 e1 p1 s1 at1) = absurd (omega arith)
  carries-once o depth end p s t u (Through d e p' s' cmp ra rb offset join w t' before at over rest)
      (Along d1 e1 p1 s1 j t1 before1 at1 goes1 rest1) = br_goes_not o p j cmp ra rb offset at1 at goes1
  carries-once o depth end p s t u (Through d e p' s' cmp ra rb offset join w t' before at over rest)
      (Through d1 e1 p1 s1 cmp1 ra1 rb1 offset1 join1 w1 t1 before1 at1 over1 rest1) =
      let same = offset_once cmp1 cmp ra1 rb1 ra rb offset1 offset (instr-once o p _ _ at1 at) in
      let m = over-once o depth end p offset s join join1 w w1 over
      (subst (λ (x : ℤ). CarriesOver o depth end p x s join1 w1) same over1) in
      carries-once o depth end join w t u rest
      (subst (λ (x : SymState). CarriesTo o depth end join x u) (sym m.1)
      (subst (λ (q : ℕ). CarriesTo o depth end q w1 u) (sym m.0) rest1))

  pub over-once : (o : Parts) (depth end p : ℕ) (offset : ℤ) (s : SymState) (join join1 : ℕ) (t u : SymState)
      → CarriesOver o depth end p offset s join t → CarriesOver o depth end p offset s join1 u
      → (join ≡ join1) × (t ≡ u)
  over-once o depth end p offset s join join1 t u
      (ByBoth d e p' f s' second j' left right arms first behind)
      (ByBoth d1 e1 p1 f1 s1 second1 j1 left1 right1 arms1 first1 behind1) =
      let same = arms-once second join second1 join1 (sym arms ∙ arms1) in
      let l = carries-once o (depth + 1) (second - 1) (p + 1) s left left1 first
      (subst (λ (q : ℕ). CarriesTo o (depth + 1) (q - 1) (p + 1) s left1) (sym same.0) first1) in
      let r = carries-once o (depth + 1) join second s right right1 behind
      (subst (λ (q : ℕ). CarriesTo o (depth + 1) join q s right1) (sym same.0)
      (subst (λ (q : ℕ). CarriesTo o (depth + 1) q second1 s right1) (sym same.1) behind1)) in
      (same.1, ap (λ (x : SymState). common x right) l ∙ ap (common left1) r)
