-- Targets are marked, one after another.
use Rattle.std.proofs.Common.{◌≡◌, ℕ, ◌+◌, ◌<◌, ◌≤◌, Bool, true, false, List, length, slice_get, get_or, set, ◌⊎◌, inl, inr, Option, Some, None, ℤ, refl, sym, ap, ◌∙◌, subst, ⊎_elim, arith, get_or-set_same, get_or-set_other, length-set}
use Rattle.std.specs.Prelude.{replicate}
use Rattle.std.proofs.lemmas.Bool.{cases_eq, cases_lt, false≢true}
use Rattle.std.proofs.lemmas.List.{get_or_past, get_or-replicate, length-replicate}
use Rattle.gr_word.specs.declared.operations.Cmp.{Cmp}
use Rattle.lt_isa.specs.declared.instructions.Instr.{Instr}
use Rattle.lt_isa.specs.declared.instructions.Instr.TheVariants.{Halt, Jmp, Br}
use Rattle.lt_isa.specs.Prelude.{Parts, target_of}
use Rattle.trace_patterns.specs.Prelude.{Known, only_goes_on}
use Rattle.trace_patterns.proofs.Carries.{instr-once, offset_once}
use Rattle.note_infer.specs.Prelude.{is_crossed, States, IsTarget, OfJump, OfBranch, IsTargetOf, ByJump, ByBranch, is_marked_at, Marks, MarksFrom, MarksBelow}
use Rattle.note_infer.proofs.SameParts.{same_jump}

-- one place
pub marks_one : (marks : List Bool) (target : ℕ) → target < length marks → Marks target marks (set marks target true)
marks_one marks target lt = record {
  size = length-set marks target true;
  keeps = λ q e. ⊎_elim
      (λ (at : q ≡ target). ap (λ (x : ℕ). get_or (set marks target true) x false) at
      ∙ get_or-set_same marks target true false lt)
      (λ (ne : q ≡ target → ⊥). get_or-set_other marks target q true false ne ∙ e) (cases_eq q target);
  here = λ inside. get_or-set_same marks target true false lt;
  only = λ q e. ⊎_elim (λ (at : q ≡ target). inr at)
      (λ (ne : q ≡ target → ⊥). inl (sym (get_or-set_other marks target q true false ne) ∙ e)) (cases_eq q target);
}

pub marks_nothing : (marks : List Bool) (target : ℕ) → length marks ≤ target → Marks target marks marks
marks_nothing marks target le = record {
  size = refl;
  keeps = λ q e. e;
  here = λ inside. absurd (omega arith);
  only = λ q e. inl e;
}

-- the targets of one instruction
goes_no_target : {A : Type 0} (o : Parts) (crossed : List ℕ) (place q : ℕ) (i : Instr) → slice_get o.code place ≡ Some i
    → only_goes_on i ≡ true → IsTargetOf o crossed place q → A
goes_no_target o crossed place q i code goes (ByJump p r x at to inside) =
    absurd (false≢true (ap only_goes_on (instr-once o place (Jmp x) i at code) ∙ goes))
goes_no_target o crossed place q i code goes (ByBranch p r cmp ra rb x at apart to inside) =
    absurd (false≢true (ap only_goes_on (instr-once o place (Br cmp ra rb x) i at code) ∙ goes))

pub marks_goes : (o : Parts) (crossed : List ℕ) (place : ℕ) (i : Instr) (marks : List Bool)
    → slice_get o.code place ≡ Some i → only_goes_on i ≡ true → MarksFrom o crossed place marks marks
marks_goes o crossed place i marks code goes = record {
  size = refl;
  keeps = λ q e. e;
  all = λ q h. goes_no_target o crossed place q i code goes h;
  only = λ q e. inl e;
}

halt_no_target : {A : Type 0} (o : Parts) (crossed : List ℕ) (place q : ℕ) (i : Instr) → slice_get o.code place ≡ Some i
    → i ≡ Halt → IsTargetOf o crossed place q → A
halt_no_target o crossed place q i code is (ByJump p r x at to inside) =
    absurd (let f : Halt ≡ Jmp x = sym is ∙ instr-once o place i (Jmp x) code at in cc)
halt_no_target o crossed place q i code is (ByBranch p r cmp ra rb x at apart to inside) =
    absurd (let f : Halt ≡ Br cmp ra rb x = sym is ∙ instr-once o place i (Br cmp ra rb x) code at in cc)

pub marks_halts : (o : Parts) (crossed : List ℕ) (place : ℕ) (i : Instr) (marks : List Bool)
    → slice_get o.code place ≡ Some i → i ≡ Halt → MarksFrom o crossed place marks marks
marks_halts o crossed place i marks code is = record {
  size = refl;
  keeps = λ q e. e;
  all = λ q h. halt_no_target o crossed place q i code is h;
  only = λ q e. inl e;
}

jump_target : (o : Parts) (crossed : List ℕ) (place q : ℕ) (offset : ℤ) → slice_get o.code place ≡ Some (Jmp offset)
    → IsTargetOf o crossed place q → (q ≡ target_of o place offset) × (q < length o.code)
jump_target o crossed place q offset code (ByJump p r x at to inside) =
    (to ∙ ap (target_of o place) (same_jump x offset (instr-once o place (Jmp x) (Jmp offset) at code)), inside)
jump_target o crossed place q offset code (ByBranch p r cmp ra rb x at apart to inside) =
    absurd (let f : Jmp offset ≡ Br cmp ra rb x = instr-once o place (Jmp offset) (Br cmp ra rb x) code at in cc)

-- a mark at a target
mark_target : (o : Parts) (crossed : List ℕ) (place target : ℕ) (before after : List Bool)
    → length before ≡ length o.code → Marks target before after
    → ((q : ℕ) → IsTargetOf o crossed place q → (q ≡ target) × (q < length o.code))
    → (target < length o.code → IsTargetOf o crossed place target) → MarksFrom o crossed place before after
mark_target o crossed place target before after size h is here = record {
  size = h.size;
  keeps = h.keeps;
  all = λ q t. subst (λ (x : ℕ). is_marked_at after x ≡ true) (sym (is q t).0)
      (h.here (omega (arith, size, (is q t).0, (is q t).1)));
  only = λ q e. by q e (h.only q e) (cases_lt target (length o.code));
}
  where
    by : (q : ℕ) → is_marked_at after q ≡ true → is_marked_at before q ≡ true ⊎ (q ≡ target)
        → (target < length o.code) ⊎ (length o.code ≤ target)
        → is_marked_at before q ≡ true ⊎ IsTargetOf o crossed place q
    by q e (inl old) where_is = inl old
    by q e (inr at) (inl lt) = inr (subst (IsTargetOf o crossed place) (sym at) (here lt))
    by q e (inr at) (inr le) =
        absurd (false≢true (sym (get_or_past after q false (omega (arith, h.size, size))) ∙ e))

pub marks_jumps : (o : Parts) (crossed : List ℕ) (place : ℕ) (offset : ℤ) (before after : List Bool)
    → length before ≡ length o.code → slice_get o.code place ≡ Some (Jmp offset)
    → Marks (target_of o place offset) before after → MarksFrom o crossed place before after
marks_jumps o crossed place offset before after size code h =
    mark_target o crossed place (target_of o place offset) before after size h
    (λ q t. jump_target o crossed place q offset code t)
    (λ lt. ByJump place (target_of o place offset) offset code refl lt)

branch_target : (o : Parts) (crossed : List ℕ) (place q : ℕ) (cmp : Cmp) (ra rb : ℕ) (offset : ℤ)
    → slice_get o.code place ≡ Some (Br cmp ra rb offset) → IsTargetOf o crossed place q
    → (q ≡ target_of o place offset) × (q < length o.code)
branch_target o crossed place q cmp ra rb offset code (ByJump p r x at to inside) =
    absurd (let f : Br cmp ra rb offset ≡ Jmp x = instr-once o place (Br cmp ra rb offset) (Jmp x) code at in cc)
branch_target o crossed place q cmp ra rb offset code (ByBranch p r c sa sb x at apart to inside) = (
  to ∙ ap (target_of o place) (offset_once c cmp sa sb ra rb x offset
      (instr-once o place (Br c sa sb x) (Br cmp ra rb offset) at code)),
  inside,
)

pub marks_branches : (o : Parts) (crossed : List ℕ) (place : ℕ) (cmp : Cmp) (ra rb : ℕ) (offset : ℤ)
    (before after : List Bool) → length before ≡ length o.code
    → slice_get o.code place ≡ Some (Br cmp ra rb offset) → is_crossed crossed place ≡ false
    → Marks (target_of o place offset) before after → MarksFrom o crossed place before after
marks_branches o crossed place cmp ra rb offset before after size code apart h =
    mark_target o crossed place (target_of o place offset) before after size h
    (λ q t. branch_target o crossed place q cmp ra rb offset code t)
    (λ lt. ByBranch place (target_of o place offset) cmp ra rb offset code apart refl lt)

crossed_no_target : {A : Type 0} (o : Parts) (crossed : List ℕ) (place q : ℕ) (cmp : Cmp) (ra rb : ℕ) (offset : ℤ)
    → slice_get o.code place ≡ Some (Br cmp ra rb offset) → is_crossed crossed place ≡ true
    → IsTargetOf o crossed place q → A
crossed_no_target o crossed place q cmp ra rb offset code among (ByJump p r x at to inside) =
    absurd (let f : Br cmp ra rb offset ≡ Jmp x = instr-once o place (Br cmp ra rb offset) (Jmp x) code at in cc)
crossed_no_target o crossed place q cmp ra rb offset code among (ByBranch p r c sa sb x at apart to inside) =
    absurd (false≢true (sym apart ∙ among))

pub marks_crossed : (o : Parts) (crossed : List ℕ) (place : ℕ) (cmp : Cmp) (ra rb : ℕ) (offset : ℤ) (marks : List Bool)
    → slice_get o.code place ≡ Some (Br cmp ra rb offset) → is_crossed crossed place ≡ true
    → MarksFrom o crossed place marks marks
marks_crossed o crossed place cmp ra rb offset marks code among = record {
  size = refl;
  keeps = λ q e. e;
  all = λ q h. crossed_no_target o crossed place q cmp ra rb offset code among h;
  only = λ q e. inl e;
}

-- the marks of the places so far
pub marks_begun : (o : Parts) (crossed : List ℕ) (states : States) (n : ℕ) → n ≡ length o.code
    → MarksBelow o crossed states 0 (replicate n false)
marks_begun o crossed states n size = record {
  size = length-replicate n false ∙ size;
  all = λ p q k lt e t. absurd (omega arith);
  only = λ q e. absurd (false≢true (sym (none q (cases_lt q n)) ∙ e));
}
  where
    none : (q : ℕ) → (q < n) ⊎ (n ≤ q) → is_marked_at (replicate n false) q ≡ false
    none q (inl lt) = get_or-replicate n q false false lt
    none q (inr le) = get_or_past (replicate n false) q false (omega (arith, length-replicate n false))

target_is : (o : Parts) (crossed : List ℕ) (states : States) (p q : ℕ) (k : Known) → states p ≡ Some k
    → IsTargetOf o crossed p q → IsTarget o crossed states q
target_is o crossed states p q k e (ByJump p' q' x at to inside) = OfJump p q k x e at to inside
target_is o crossed states p q k e (ByBranch p' q' cmp ra rb x at apart to inside) =
    OfBranch p q k cmp ra rb x e at apart to inside

pub marks_more : (o : Parts) (crossed : List ℕ) (states : States) (place : ℕ) (k : Known) (before after : List Bool)
    → states place ≡ Some k → MarksBelow o crossed states place before → MarksFrom o crossed place before after
    → MarksBelow o crossed states (place + 1) after
marks_more o crossed states place k before after known h m = record {
  size = m.size ∙ h.size;
  all = λ p q j lt e t. ⊎_elim
      (λ (at : p ≡ place). m.all q (subst (λ (x : ℕ). IsTargetOf o crossed x q) at t))
      (λ (ne : p ≡ place → ⊥). m.keeps q (h.all p q j (omega (arith, ne)) e t)) (cases_eq p place);
  only = λ q e. ⊎_elim (λ (old : is_marked_at before q ≡ true). h.only q old)
      (λ (t : IsTargetOf o crossed place q). target_is o crossed states place q k known t) (m.only q e);
}

pub marks_skip : (o : Parts) (crossed : List ℕ) (states : States) (place : ℕ) (marks : List Bool)
    → states place ≡ None → MarksBelow o crossed states place marks → MarksBelow o crossed states (place + 1) marks
marks_skip o crossed states place marks none h = record {
  size = h.size;
  all = λ p q j lt e t. ⊎_elim
      (λ (at : p ≡ place). absurd (let f : ◌≡◌ {A = Option Known} None (Some j) = sym none ∙ ap states
      (sym at) ∙ e in cc))
      (λ (ne : p ≡ place → ⊥). h.all p q j (omega (arith, ne)) e t) (cases_eq p place);
  only = h.only;
}
