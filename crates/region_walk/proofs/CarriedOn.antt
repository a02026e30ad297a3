-- The walk that only carries a state: over one place, and over a region.
use Rattle.std.proofs.Common.{◌≡◌, ℕ, ◌+◌, ◌-◌, ◌<◌, ◌≤◌, ℤ, true, List, [], length, slice_get, Some, sym, ap, ◌∙◌, subst, arith}
use Rattle.lt_isa.specs.declared.symbols.Note.{Note}
use Rattle.lt_isa.specs.declared.instructions.Instr.{Instr}
use Rattle.lt_isa.specs.declared.instructions.Instr.TheVariants.{Br}
use Rattle.lt_isa.specs.Prelude.{Parts}
use Rattle.symbolic_values.specs.declared.nodes.Node.{Node}
use Rattle.symbolic_values.specs.Prelude.{KeepsTrees}
use Rattle.trace_patterns.specs.Prelude.{Known, SymState, at_entry, common, Arms, shape, only_goes_on, held_behind, CarriesTo, Arrived, Along, Through, CarriesOver, ByBoth, JoinsIn, without_notes}
use Rattle.trace_patterns.proofs.Carries.{instr-once, br_goes_not, offset_once, arms-once, over-once}
use Rattle.region_walk.specs.declared.carries.Led.{Led}
use Rattle.region_walk.specs.declared.carries.Led.TheVariants.{Reaches, Unshaped, Memory}
use Rattle.region_walk.specs.declared.states.RegionState.{RegionState}
use Rattle.region_walk.specs.Prelude.{sym_of, known_of, IsCommon, BranchStands, HoldsBehind, StateIsReady, LeadsOn, IsLedOn, IsLedOver, LeadsOver, IsCarriedTo}
use Rattle.region_walk.proofs.TableGrowth.{keeps-then, keeps-longer}
use Rattle.region_walk.proofs.Numbered.{state_fits-more, known_after-sym}
use Rattle.region_walk.proofs.CommonStates.{state_fits-common}

pub leads-then : (o : Parts) (depth end p q r : ℕ) (a b c : List Node) (s t u : RegionState)
    → LeadsOn o depth end p a s q b t → LeadsOn o depth end q b t r c u → LeadsOn o depth end p a s r c u
leads-then o depth end p q r a b c s t u one two = record {
  onward = omega (arith, one.onward, two.onward);
  within = two.within;
  ready = two.ready;
  keeps = keeps-then a b c one.keeps two.keeps;
  carries = λ x h. one.carries x (two.carries x h);
  alone = λ x h. two.alone x (one.alone x h);
}

-- after an instruction that only continues to the next place
along-alone : (o : Parts) (depth end p : ℕ) (s t : SymState) (i : Instr) → CarriesTo o depth end p s t → p < end
    → slice_get o.code p ≡ Some i → only_goes_on i ≡ true → CarriesTo o depth end (p + 1) (held_behind o s i) t
along-alone o depth end p s t i (Arrived d e p' s' at) lt here goes = absurd (omega arith)
along-alone o depth end p s t i (Along d e p' s' j t' before at only rest) lt here goes =
    subst (λ (x : Instr). CarriesTo o depth end (p + 1) (held_behind o s x) t) (instr-once o p j i at here) rest
along-alone o depth end p s t i (Through d e p' s' cmp ra rb offset join u t' before at over rest) lt here goes =
    br_goes_not o p i cmp ra rb offset here at goes

pub along-leads : (o : Parts) (depth end p : ℕ) (old new : List Node) (s behind : RegionState) (i : Instr)
    → StateIsReady p old s → p < end → slice_get o.code p ≡ Some i → only_goes_on i ≡ true
    → HoldsBehind o old s i new behind → LeadsOn o depth end p old s (p + 1) new behind
along-leads o depth end p old new s behind i ready lt here goes h = record {
  onward = omega arith;
  within = omega arith;
  ready = record {
    table = h.gains.table;
    few = omega (arith, h.gains.room, ready.few);
    state = h.fits;
  };
  keeps = h.gains.keeps;
  carries = λ t c. Along depth end p (sym_of old s) i t lt here goes
      (subst (λ (x : SymState). CarriesTo o depth end (p + 1) x t) h.is c);
  alone = λ t c. subst (λ (x : SymState). CarriesTo o depth end (p + 1) x t) (sym h.is)
      (along-alone o depth end p (sym_of old s) t i c lt here goes);
}

-- a state is carried over a branch and its region, and then on
record IsThrough (o : Parts) (depth end p : ℕ) (offset : ℤ) (s t : SymState) : Type 0 where
  join : ℕ
  state : SymState
  over : CarriesOver o depth end p offset s join state
  rest : CarriesTo o depth end join state t

through-alone : (o : Parts) (depth end p : ℕ) (offset : ℤ) (s t : SymState) → p < end → BranchStands o p offset
    → CarriesTo o depth end p s t → IsThrough o depth end p offset s t
through-alone o depth end p offset s t lt b (Arrived d e p' s' at) = absurd (omega arith)
through-alone o depth end p offset s t lt b (Along d e p' s' j t' before at only rest) =
    br_goes_not o p j b.cmp b.ra b.rb offset at b.at only
through-alone o depth end p offset s t lt b (Through d e p' s' cmp ra rb x join u t' before at over rest) =
    let same = offset_once cmp b.cmp ra rb b.ra b.rb x offset
    (instr-once o p (Br cmp ra rb x) (Br b.cmp b.ra b.rb offset) at b.at) in
    record {
      join = join;
      state = u;
      over = subst (λ (z : ℤ). CarriesOver o depth end p z s join u) same over;
      rest = rest;
    }

pub branch-leads : (o : Parts) (depth end p : ℕ) (offset : ℤ) (old new : List Node) (s behind : RegionState) (led : Led)
    → p < end → BranchStands o p offset → IsLedOver o depth end p offset old s led new behind
    → IsLedOn o depth end p old s led new behind
branch-leads o depth end p offset old new s behind (Reaches join) lt b h = (
  record {
    onward = omega (arith, h.behind);
    within = h.within;
    ready = h.ready;
    keeps = h.keeps;
    carries = λ t c. Through depth end p (sym_of old s) b.cmp b.ra b.rb offset join
        (sym_of new behind) t lt b.at h.over c;
    alone = λ t c.
        let m = through-alone o depth end p offset (sym_of old s) t lt b c in
        let same = over-once o depth end p offset (sym_of old s) m.join join m.state
        (sym_of new behind) m.over h.over in
        subst (λ (x : SymState). CarriesTo o depth end join x t) same.1
        (subst (λ (q : ℕ). CarriesTo o depth end q m.state t) same.0 m.rest);
  },
  omega (arith, h.behind),
)
branch-leads o depth end p offset old new s behind Unshaped lt b h = record {
  nothing = λ t c.
      let m = through-alone o depth end p offset (sym_of old s) t lt b c in h.nothing m.join m.state m.over;
  keeps = h.keeps;
}
branch-leads o depth end p offset old new s behind Memory lt b h = tt

-- an object without notes is the same without its notes
pub bare-same : (o : Parts) → o.notes ≡ [] → without_notes o ≡ o
bare-same o bare = ap (λ (n : List Note). let r : Parts = record o { notes = n } in r) (sym bare)

-- a state is carried over a region with a shape
module _ (o : Parts) (depth end p : ℕ) (offset : ℤ) (s : SymState) (second join : ℕ) (bare : o.notes ≡ [])
    (arms : shape o depth end p offset ≡ Arms second join) where
  bare_arms : shape (without_notes o) depth end p offset ≡ Arms second join
  bare_arms = ap (λ (a : Parts). shape a depth end p offset) (bare-same o bare) ∙ arms

  pub second-unshaped : ((t : SymState) → CarriesTo o (depth + 1) join second s t → ⊥) → (at : ℕ) (t : SymState)
      → CarriesOver o depth end p offset s at t → ⊥
  second-unshaped none at t (ByBoth d e p' f s' second' j left right arms' first behind) =
      let same = arms-once second' at second join (sym arms' ∙ bare_arms) in
      none right (subst (λ (q : ℕ). CarriesTo o (depth + 1) q second s right) same.1
      (subst (λ (q : ℕ). CarriesTo o (depth + 1) at q s right) same.0 behind))

  pub both-over : (left right : SymState) → CarriesTo o (depth + 1) (second - 1) (p + 1) s left
      → CarriesTo o (depth + 1) join second s right → CarriesOver o depth end p offset s join (common left right)
  both-over left right first behind =
      ByBoth depth end p offset s second join left right bare_arms first behind

-- a state that is carried to the end of an arm
pub arm-carries : (o : Parts) (depth end p next : ℕ) (old new : List Node) (s t : RegionState)
    → LeadsOn o depth end p old s next new t → next ≡ end → CarriesTo o depth end p (sym_of old s) (sym_of new t)
arm-carries o depth end p next old new s t h at =
    h.carries (sym_of new t) (Arrived depth end next (sym_of new t) at)

-- a state that is in order at a place is in order at a later one
pub ready-more : (p q : ℕ) (nodes : List Node) (s : RegionState) → p ≤ q → StateIsReady p nodes s
    → StateIsReady q nodes s
ready-more p q nodes s le h = record { table = h.table; few = omega (arith, h.few); state = h.state }

pub ready-grown : (p q : ℕ) (old new : List Node) (s t : RegionState) → KeepsTrees old new → StateIsReady p old s
    → StateIsReady q new t → StateIsReady q new s
ready-grown p q old new s t keeps before now = record {
  table = now.table;
  few = now.few;
  state = state_fits-more (length old) (length new) s (keeps-longer old new keeps) before.state;
}

-- what both arms leave alike is in order
pub alike-ready : (q : ℕ) (nodes : List Node) (s t u : RegionState) → StateIsReady q nodes s → IsCommon s t u
    → StateIsReady q nodes u
alike-ready q nodes s t u h common = record {
  table = h.table;
  few = h.few;
  state = state_fits-common (length nodes) s t u h.state common;
}

-- what is known at the join of a region in public code
pub carried-to : (o : Parts) (p : ℕ) (offset : ℤ) (k : Known) (old new : List Node) (s behind : RegionState) (join : ℕ)
    (next : Known) → sym_of old s ≡ at_entry k → LeadsOver o 0 (length o.code - 1) p offset old s join new behind
    → next ≡ known_of behind → IsCarriedTo o p offset k join next
carried-to o p offset k old new s behind join next entry h is = record {
  joins = record {
    state = sym_of new behind;
    over = subst (λ (x : SymState). CarriesOver o 0 (length o.code - 1) p offset x join
        (sym_of new behind)) entry h.over;
    next_is = is ∙ sym (known_after-sym new behind);
  };
  behind = h.behind;
  inside = h.inside;
}

pub not-carried : (o : Parts) (p : ℕ) (offset : ℤ) (k : Known) (nodes : List Node) (s : RegionState)
    → sym_of nodes s ≡ at_entry k
    → ((j : ℕ) (t : SymState) → CarriesOver o 0 (length o.code - 1) p offset (sym_of nodes s) j t → ⊥)
    → (join : ℕ) (next : Known) → JoinsIn o p offset k join next → ⊥
not-carried o p offset k nodes s entry none join next h =
    none join h.state
    (subst (λ (x : SymState). CarriesOver o 0 (length o.code - 1) p offset x join h.state) (sym entry) h.over)
