-- Notes are made at the marked places, one after another.
use Rattle.std.proofs.Common.{◌≡◌, ℕ, ◌+◌, ◌<◌, ◌==◌, ◌^◌, Bool, true, false, List, [], ◌∷◌, ◌++◌, length, get_or, ◌⊎◌, inl, inr, Option, Some, None, refl, sym, ap, ◌∙◌, subst, ⊎_elim, arith, length-append}
use Rattle.std.specs.Prelude.{All, IsTrue, is_none, nat_lt, ◌||◌, if◌then◌else◌}
use Rattle.std.specs.Option.{option_map, option_or}
use Rattle.std.proofs.lemmas.Bool.{cases_eq, eq-eqb, ne_eqb, lt-ltb}
use Rattle.std.proofs.lemmas.List.Elements.{All-from_get_or}
use Rattle.std.proofs.lemmas.List.Folds.{find-append}
use Rattle.gr_base.proofs.EachAfter.{EachAfter-push}
use Rattle.gr_base.proofs.AtLast.{at_last-push}
use Rattle.lt_isa.specs.declared.symbols.Note.{Note}
use Rattle.lt_isa.specs.Prelude.{Parts, NoteFits, is_slot_claim}
use Rattle.trace_patterns.specs.Prelude.{Known, bank_known, note_known, claimed_bank, note_of_place}
use Rattle.trace_patterns.proofs.Masks.{get_or-claims}
use Rattle.note_infer.specs.Prelude.{States, IsSoundAt, is_marked_at, claims_at, IsNoteAt, IsNoteOf, NotesBelow}

pub known_if : (x : Option Known) → is_none x ≡ false → (k : Known) × (x ≡ Some k)
known_if None e = absurd (let f : true ≡ false = e in cc)
known_if (Some k) e = (k, refl)

pub known_more : (states : List (Option Known)) (place : ℕ)
    → ((q : ℕ) → q < place → (k : Known) × (get_or states q None ≡ Some k)) → is_none (get_or states place None) ≡ false
    → (q : ℕ) → q < place + 1 → (k : Known) × (get_or states q None ≡ Some k)
known_more states place below here q lt =
    ⊎_elim
    (λ (e : q ≡ place). subst (λ (x : ℕ). (k : Known) × (get_or states x None ≡ Some k)) (sym e)
    (known_if (get_or states place None) here))
    (λ (ne : q ≡ place → ⊥). below q (omega (arith, lt, ne)))
    (cases_eq q place)

-- a note claims only banks of the object
claim_fits : (banks claim : ℕ) → ((b : ℕ) → claimed_bank claim ≡ Some b → b < banks)
    → IsTrue (is_slot_claim banks claim)
claim_fits banks claim h =
    ⊎_elim
    (λ (e : claim ≡ 255). or_right (nat_lt claim banks) (claim == 255) (eq-eqb claim 255 e))
    (λ (ne : claim ≡ 255 → ⊥).
    let f : claimed_bank claim ≡ Some claim =
    ap (λ (b : Bool). let r : Option ℕ = if b then None else Some claim in r) (ne_eqb claim 255 ne) in
    or_left (nat_lt claim banks) (claim == 255) (lt-ltb claim banks (h claim f)))
    (cases_eq claim 255)
  where
    or_right : (a b : Bool) → b ≡ true → IsTrue (a || b)
    or_right true b e = refl
    or_right false b e = e

    or_left : (a b : Bool) → a ≡ true → IsTrue (a || b)
    or_left a b e = ap (λ (x : Bool). x || b) e

bank_noted : (n : Note) (j : ℕ) → j < 8 → bank_known (note_known n) j ≡ claimed_bank (get_or n.slots j 255)
bank_noted n j lt = get_or-claims 8 n.slots j None lt

slots_fit : (banks : ℕ) (n : Note) → length n.slots ≡ 8
    → ((slot bank : ℕ) → bank_known (note_known n) slot ≡ Some bank → bank < banks)
    → All (λ claim. IsTrue (is_slot_claim banks claim)) n.slots
slots_fit banks n size h =
    All-from_get_or (λ claim. IsTrue (is_slot_claim banks claim)) n.slots 255
    (λ j lt. claim_fits banks (get_or n.slots j 255) (λ b e. h j b (bank_noted n j (omega (arith, lt, size)) ∙ e)))

-- the notes of the places so far
pub notes_begun : (o : Parts) (marks : List Bool) (states : States) → NotesBelow o marks states 0 []
notes_begun o marks states = record {
  few = omega arith;
  fits = tt;
  next = omega arith;
  has = λ q k lt m e. absurd (omega arith);
  only = λ q k e. absurd (let f : ◌≡◌ {A = Option Known} None (Some k) = e in cc);
}

pub notes_skip : (o : Parts) (marks : List Bool) (states : States) (place : ℕ) (notes : List Note)
    → IsNoteOf marks states place None → NotesBelow o marks states place notes
    → NotesBelow o marks states (place + 1) notes
notes_skip o marks states place notes none h = record {
  few = omega (arith, h.few);
  fits = h.fits;
  next = omega (arith, h.next);
  has = λ q k lt m e. ⊎_elim
      (λ (at : q ≡ place). absurd (none k (ap (is_marked_at marks) (sym at) ∙ m) (ap states (sym at) ∙ e)))
      (λ (ne : q ≡ place → ⊥). h.has q k (omega (arith, lt, ne)) m e) (cases_eq q place);
  only = λ q k e. let g = h.only q k e in (g.0, omega (arith, g.1));
}

found_by : (found : Option Note) (n : Note) (q : ℕ) → Option Known
found_by found n q = option_map note_known (option_or found (note_of_place (n ∷ []) q))

pushed_at : (notes : List Note) (n : Note) (q : ℕ)
    → claims_at (notes ++ n ∷ []) q ≡ found_by (note_of_place notes q) n q
unfolding found_by
pushed_at notes n q = ap (option_map note_known) (find-append (λ (m : Note). m.pc == q) notes (n ∷ []))

found_old : (found : Option Note) (n : Note) (q : ℕ) (k : Known) → option_map note_known found ≡ Some k
    → found_by found n q ≡ Some k
unfolding found_by
found_old None n q k e = absurd (let f : ◌≡◌ {A = Option Known} None (Some k) = e in cc)
found_old (Some m) n q k e = e

found_new : (found : Option Note) (n : Note) (q : ℕ) → found ≡ None → n.pc ≡ q → found_by found n q ≡ Some
    (note_known n)
unfolding found_by
found_new None n q e at =
    ap (λ (b : Bool). option_map note_known (let r : Option Note = if b then Some n else None in r)) (eq-eqb n.pc q at)
found_new (Some m) n q e at = absurd (let f : ◌≡◌ {A = Option Note} (Some m) None = e in cc)

found_cases : (found : Option Note) (n : Note) (q : ℕ) (k : Known) → found_by found n q ≡ Some k
    → (option_map note_known found ≡ Some k) ⊎ (q ≡ n.pc)
unfolding found_by
found_cases (Some m) n q k e = inl e
found_cases None n q k e =
    ⊎_elim (λ (at : n.pc ≡ q). inr (sym at))
    (λ (ne : n.pc ≡ q → ⊥).
    absurd (let f : ◌≡◌ {A = Option Known} None (Some k) =
    sym (ap (λ (b : Bool). option_map note_known (let r : Option Note = if b then Some n else None in r))
    (ne_eqb n.pc q ne)) ∙ e in cc))
    (cases_eq n.pc q)

none_found : (found : Option Note) → ((k : Known) → option_map note_known found ≡ Some k → ⊥) → found ≡ None
none_found None h = refl
none_found (Some m) h = absurd (h (note_known m) refl)

pub notes_push : (o : Parts) (marks : List Bool) (states : States) (place : ℕ) (notes : List Note) (n : Note)
    → place < 2 ^ 32 → ((k : Known) → states place ≡ Some k → IsSoundAt o place k) → IsNoteAt marks states place n
    → NotesBelow o marks states place notes → NotesBelow o marks states (place + 1) (notes ++ n ∷ [])
notes_push o marks states place notes n small sound made h = record {
  few = omega (arith, h.few, length-append notes (n ∷ []));
  fits = EachAfter-push (NoteFits (length o.banks)) [] notes n h.fits (record {
    pc = (omega (arith, h.next, made.pc), omega (arith, small, made.pc));
    secrets = made.secrets;
    slot_count = made.slot_count;
    slots = slots_fit (length o.banks) n made.slot_count (sound (note_known n) made.claim).banks;
  });
  next = omega (arith, at_last-push (λ (m : Note). m.pc + 1) notes n, made.pc);
  has = λ q k lt m e. pushed_at notes n q ∙ has q k lt m e (cases_eq q place);
  only = λ q k e. only q k (found_cases (note_of_place notes q) n q k (sym (pushed_at notes n q) ∙ e));
}
  where
    fresh : note_of_place notes place ≡ None
    fresh = none_found (note_of_place notes place)
        (λ k e. let g = (h.only place k e).1 in let f : ⊥ = omega (arith, g) in f)

    has : (q : ℕ) (k : Known) → q < place + 1 → is_marked_at marks q ≡ true → states q ≡ Some k
        → (q ≡ place) ⊎ (q ≡ place → ⊥) → found_by (note_of_place notes q) n q ≡ Some k
    has q k lt m e (inr ne) =
        found_old (note_of_place notes q) n q k (h.has q k (omega (arith, lt, ne)) m e)
    has q k lt m e (inl at) =
        let f : ◌≡◌ {A = Option Known} (Some (note_known n)) (Some k) = sym made.claim ∙ ap states (sym at) ∙ e in
        found_new (note_of_place notes q) n q (ap (note_of_place notes) at ∙ fresh) (made.pc ∙ sym at) ∙ f

    only : (q : ℕ) (k : Known) → (option_map note_known (note_of_place notes q) ≡ Some k) ⊎ (q ≡ n.pc)
        → (is_marked_at marks q ≡ true) × (q < place + 1)
    only q k (inl old) = let g = h.only q k old in (g.0, omega (arith, g.1))
    only q k (inr at) = (ap (is_marked_at marks) (at ∙ made.pc) ∙ made.marked, omega (arith, at, made.pc))
