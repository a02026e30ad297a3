-- Ways from a lower state: what they carry is lower, and they lead to the same places. What is carried is one.
use Rattle.std.proofs.Common.{ℕ, ◌-◌, ℤ, List, length, refl, sym, subst}
use Rattle.lt_isa.specs.declared.instructions.Instr.{Instr}
use Rattle.lt_isa.specs.Prelude.{Parts}
use Rattle.trace_patterns.specs.Prelude.{Known, SymState, at_entry, known_after, known_behind, CarriesOver}
use Rattle.note_infer.specs.Prelude.{PublicWay, Next, Skips, Branches, Jumps, Crosses}
use Rattle.trace_patterns.proofs.Carries.{over-with}
use Rattle.note_infer.proofs.Lower.{IsBelow, IsLower, held-below, known-lower, entry-below, common-below, after-lower}

-- over a region: from a state below it is carried below, and from one above above
pub record OverBelow (o : Parts) (depth end p : ℕ) (offset : ℤ) (low : SymState) (join : ℕ)
    (high : SymState) : Type 0 where
  pub state : SymState
  pub carried : CarriesOver o depth end p offset low join state
  pub below : IsBelow state high

pub over-below : (o : Parts) (depth end p : ℕ) (offset : ℤ) (s : SymState) (join : ℕ) (t low : SymState)
    → CarriesOver o depth end p offset s join t → IsBelow low s → OverBelow o depth end p offset low join t
over-below o depth end p offset s join t low over h =
    let r = over-with o IsBelow (λ x y i p' at g. held-below o x y i g) common-below depth end p offset s join t low
    over h in
    record { state = r.state; carried = r.carried; below = r.related }

pub record OverAbove (o : Parts) (depth end p : ℕ) (offset : ℤ) (high : SymState) (join : ℕ)
    (low : SymState) : Type 0 where
  pub state : SymState
  pub carried : CarriesOver o depth end p offset high join state
  pub above : IsBelow low state

pub over-above : (o : Parts) (depth end p : ℕ) (offset : ℤ) (s : SymState) (join : ℕ) (t high : SymState)
    → CarriesOver o depth end p offset s join t → IsBelow s high → OverAbove o depth end p offset high join t
over-above o depth end p offset s join t high over h =
    let r = over-with o (λ x y. IsBelow y x) (λ x y i p' at g. held-below o y x i g)
    (λ x x' y y' g f. common-below x' x y' y g f) depth end p offset s join t high over h in
    record { state = r.state; carried = r.carried; above = r.related }

-- The same of ways: from a related state each way leads to the same place, and carries what is related.
record WayBy (R : Known → Known → Type 0) (o : Parts) (crossed : List ℕ) (p : ℕ) (other : Known) (q : ℕ)
    (next : Known) : Type 0 where
  known : Known
  way : PublicWay o crossed p other q known
  related : R known next

record OverBy (R : Known → Known → Type 0) (o : Parts) (p : ℕ) (offset : ℤ) (other : Known) (join : ℕ)
    (next : SymState) : Type 0 where
  state : SymState
  carried : CarriesOver o 0 (length o.code - 1) p offset (at_entry other) join state
  related : R (known_after state) (known_after next)

module _ (R : Known → Known → Type 0) (o : Parts)
    (behind : (k other : Known) (i : Instr) → R other k → R (known_behind other i) (known_behind k i))
    (over : (k other : Known) (p : ℕ) (offset : ℤ) (join : ℕ) (s : SymState) → R other k
    → CarriesOver o 0 (length o.code - 1) p offset (at_entry k) join s → OverBy R o p offset other join s) where
  way-by : (crossed : List ℕ) (p : ℕ) (k : Known) (q : ℕ) (next other : Known)
      → PublicWay o crossed p k q next → R other k → WayBy R o crossed p other q next
  way-by crossed p k q next other (Next p' k' q' n' i at goes to inside is) h = record {
    known = known_behind other i;
    way = Next p other q (known_behind other i) i at goes to inside refl;
    related = subst (R (known_behind other i)) (sym is) (behind k other i h);
  }
  way-by crossed p k q next other (Skips p' k' q' n' cmp ra rb offset at apart to inside is) h = record {
    known = other;
    way = Skips p other q other cmp ra rb offset at apart to inside refl;
    related = subst (R other) (sym is) h;
  }
  way-by crossed p k q next other (Branches p' k' q' n' cmp ra rb offset at apart to inside is) h = record {
    known = other;
    way = Branches p other q other cmp ra rb offset at apart to inside refl;
    related = subst (R other) (sym is) h;
  }
  way-by crossed p k q next other (Jumps p' k' q' n' offset at to inside is) h = record {
    known = other;
    way = Jumps p other q other offset at to inside refl;
    related = subst (R other) (sym is) h;
  }
  way-by crossed p k q next other (Crosses p' k' q' n' cmp ra rb offset at among joins) h =
      let m = over k other p offset q joins.state h joins.over in
      record {
        known = known_after m.state;
        way = Crosses p other q (known_after m.state) cmp ra rb offset at among
            (record { state = m.state; over = m.carried; next_is = refl });
        related = subst (R (known_after m.state)) (sym joins.next_is) m.related;
      }

-- from a lower state each way carries what is lower
pub record WayLower (o : Parts) (crossed : List ℕ) (p : ℕ) (low : Known) (q : ℕ) (high : Known) : Type 0 where
  pub known : Known
  pub way : PublicWay o crossed p low q known
  pub lower : IsLower known high

-- and from a higher state what is higher
pub record WayHigher (o : Parts) (crossed : List ℕ) (p : ℕ) (high : Known) (q : ℕ) (low : Known) : Type 0 where
  pub known : Known
  pub way : PublicWay o crossed p high q known
  pub higher : IsLower low known

pub way-higher : (o : Parts) (crossed : List ℕ) (p : ℕ) (k : Known) (q : ℕ) (next high : Known)
    → PublicWay o crossed p k q next → IsLower k high → WayHigher o crossed p high q next
way-higher o crossed p k q next high way h =
    let w = way-by (λ x y. IsLower y x) o (λ k high i h. known-lower k high i h)
    (λ k high p offset join s h over.
    let m = over-above o 0 (length o.code - 1) p offset (at_entry k) join s (at_entry high) over (entry-below k high h)
    in
    record { state = m.state; carried = m.carried; related = after-lower s m.state m.above })
    crossed p k q next high way h in
    record { known = w.known; way = w.way; higher = w.related }

-- from any state each way leads to the same place
pub record WayAny (o : Parts) (crossed : List ℕ) (p : ℕ) (other : Known) (q : ℕ) : Type 0 where
  pub known : Known
  pub way : PublicWay o crossed p other q known

pub way-any : (o : Parts) (crossed : List ℕ) (p : ℕ) (k : Known) (q : ℕ) (next other : Known)
    → PublicWay o crossed p k q next → WayAny o crossed p other q
way-any o crossed p k q next other way =
    let w = way-by (λ x y. Unit {0}) o (λ k other i h. tt)
    (λ k other p offset join s h over.
    let m = over-with o (λ x y. Unit {0}) (λ x y i p' at h. tt) (λ x x' y y' h g. tt) 0 (length o.code - 1) p offset
    (at_entry k) join s (at_entry other) over tt in
    record { state = m.state; carried = m.carried; related = tt })
    crossed p k q next other way tt in
    record { known = w.known; way = w.way }
