-- Ways: what they carry is one, and the places that they come from.
use Rattle.std.proofs.Common.{◌≡◌, ℕ, ◌-◌, true, ℤ, List, length, slice_get, ◌⊎◌, inl, inr, Some, refl, sym, ap, ◌∙◌, subst}
use Rattle.std.proofs.lemmas.Bool.{false≢true}
use Rattle.gr_word.specs.declared.operations.Cmp.{Cmp}
use Rattle.lt_isa.specs.declared.instructions.Instr.{Instr}
use Rattle.lt_isa.specs.declared.instructions.Instr.TheVariants.{Jmp, Br}
use Rattle.lt_isa.specs.declared.symbols.Note.{Note}
use Rattle.lt_isa.specs.Prelude.{Parts}
use Rattle.trace_patterns.specs.Prelude.{Known, SymState, at_entry, known_after, only_goes_on, known_behind, CarriesOver, ByBoth, JoinsIn}
use Rattle.note_infer.specs.Prelude.{LeadsTo, Onward, Past, Branched, Jumped, PublicWay, Next, Skips, Branches, Jumps, Crosses, is_crossed, with_notes}
use Rattle.trace_patterns.proofs.Carries.{instr-once, offset_once, arms-once, over-once}

-- the join of a region is unique, for any state
pub over-join : (o : Parts) (depth end p : ℕ) (offset : ℤ) (s s' : SymState) (join join' : ℕ) (t t' : SymState)
    → CarriesOver o depth end p offset s join t → CarriesOver o depth end p offset s' join' t' → join ≡ join'
over-join o depth end p offset s s' join join' t t'
    (ByBoth d e q f r second j left right arms first behind)
    (ByBoth d1 e1 q1 f1 r1 second1 j1 left1 right1 arms1 first1 behind1) =
    (arms-once second join second1 join' (sym arms ∙ arms1)).1

-- a way is a step, or it crosses a region
pub record Steps (o : Parts) (crossed : List ℕ) (p : ℕ) (k next : Known) : Type 0 where
  pub instr : Instr
  pub at : slice_get o.code p ≡ Some instr
  pub is : next ≡ known_behind k instr
  pub apart : (cmp : Cmp) (ra rb : ℕ) (offset : ℤ) → slice_get o.code p ≡ Some (Br cmp ra rb offset)
      → is_crossed crossed p ≡ true → ⊥

pub record Crossing (o : Parts) (crossed : List ℕ) (p : ℕ) (k : Known) (q : ℕ) (next : Known) : Type 0 where
  pub cmp : Cmp
  pub ra : ℕ
  pub rb : ℕ
  pub offset : ℤ
  pub at : slice_get o.code p ≡ Some (Br cmp ra rb offset)
  pub among : is_crossed crossed p ≡ true
  pub joins : JoinsIn o p offset k q next

br_behind : (k : Known) (cmp : Cmp) (ra rb : ℕ) (offset : ℤ) → known_behind k (Br cmp ra rb offset) ≡ k
unfolding known_behind
br_behind k cmp ra rb offset = refl

jmp_behind : (k : Known) (offset : ℤ) → known_behind k (Jmp offset) ≡ k
unfolding known_behind
jmp_behind k offset = refl

jmp_not_br : {A : Type 0} (c : Cmp) (ra rb : ℕ) (x y : ℤ) → Jmp x ≡ Br c ra rb y → A
jmp_not_br c ra rb x y e = absurd cc

pub way-form : (o : Parts) (crossed : List ℕ) (p : ℕ) (k : Known) (q : ℕ) (next : Known)
    → PublicWay o crossed p k q next
    → Steps o crossed p k next ⊎ Crossing o crossed p k q next
way-form o crossed p k q next (Next p' k' q' n' i at goes to inside is) = inl (record {
  instr = i;
  at = at;
  is = is;
  apart = λ cmp ra rb offset here among.
      false≢true (ap only_goes_on (sym (instr-once o p i (Br cmp ra rb offset) at here)) ∙ goes);
})
way-form o crossed p k q next (Skips p' k' q' n' c sa sb f at apart to inside is) = inl (record {
  instr = Br c sa sb f;
  at = at;
  is = is ∙ sym (br_behind k c sa sb f);
  apart = λ cmp ra rb offset here among. false≢true (sym apart ∙ among);
})
way-form o crossed p k q next (Branches p' k' q' n' c sa sb f at apart to inside is) = inl (record {
  instr = Br c sa sb f;
  at = at;
  is = is ∙ sym (br_behind k c sa sb f);
  apart = λ cmp ra rb offset here among. false≢true (sym apart ∙ among);
})
way-form o crossed p k q next (Jumps p' k' q' n' f at to inside is) = inl (record {
  instr = Jmp f;
  at = at;
  is = is ∙ sym (jmp_behind k f);
  apart = λ cmp ra rb offset here among. jmp_not_br cmp ra rb f offset (instr-once o p _ _ at here);
})
way-form o crossed p k q next (Crosses p' k' q' n' cmp ra rb offset at among joins) = inr (record {
  cmp = cmp;
  ra = ra;
  rb = rb;
  offset = offset;
  at = at;
  among = among;
  joins = joins;
})

-- what the ways from a place to another carry is one
pub way-once : (o : Parts) (crossed : List ℕ) (p : ℕ) (k : Known) (q : ℕ) (one two : Known)
    → PublicWay o crossed p k q one → PublicWay o crossed p k q two → one ≡ two
way-once o crossed p k q one two first second =
    by (way-form o crossed p k q one first) (way-form o crossed p k q two second)
  where
    by : Steps o crossed p k one ⊎ Crossing o crossed p k q one → Steps o crossed p k two ⊎ Crossing o crossed p k q two
        → one ≡ two
    by (inl s) (inl t) = s.is ∙ ap (known_behind k) (instr-once o p s.instr t.instr s.at t.at) ∙ sym t.is
    by (inl s) (inr t) = absurd (s.apart t.cmp t.ra t.rb t.offset t.at t.among)
    by (inr s) (inl t) = absurd (t.apart s.cmp s.ra s.rb s.offset s.at s.among)
    by (inr s) (inr t) =
        let e = offset_once t.cmp s.cmp t.ra t.rb s.ra s.rb t.offset s.offset (instr-once o p _ _ t.at s.at) in
        s.joins.next_is
        ∙ ap known_after (over-once o 0 (length o.code - 1) p s.offset (at_entry k) q q s.joins.state t.joins.state
        s.joins.over (subst (λ (z : ℤ). CarriesOver o 0 (length o.code - 1) p z (at_entry k) q t.joins.state) e
        t.joins.over)).1
        ∙ sym t.joins.next_is

-- steps are the same for any notes
pub leads-renoted : (o : Parts) (notes : List Note) (p q : ℕ) → LeadsTo o p q → LeadsTo (with_notes o notes) p q
leads-renoted o notes p q (Onward p' q' i at goes to inside) = Onward p q i at goes to inside
leads-renoted o notes p q (Past p' q' cmp ra rb offset at to inside) = Past p q cmp ra rb offset at to inside
leads-renoted o notes p q (Branched p' q' cmp ra rb offset at to inside) =
    Branched p q cmp ra rb offset at to inside
leads-renoted o notes p q (Jumped p' q' offset at to inside) = Jumped p q offset at to inside
