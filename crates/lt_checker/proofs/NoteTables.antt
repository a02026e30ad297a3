-- A table of notes is made from the last note to the first, and no note is at a place past it.
use Rattle.std.proofs.Common.{◌≡◌, ℕ, ◌+◌, ◌<◌, ◌≤◌, ◌==◌, List, [], ◌∷◌, length, get_or, set, drop, Option, Some, None, refl, sym, ap, ◌∙◌, subst, ⊎_elim, get_or-set_same, get_or-set_other, arith}
use Rattle.std.specs.Prelude.{slice_get, All}
use Rattle.std.proofs.lemmas.List.{drop_more}
use Rattle.std.proofs.lemmas.List.Elements.{All-head, All-tail}
use Rattle.std.proofs.lemmas.Bool.{cases_eq, eq-eqb, ne_eqb, cond-true, cond-false}
use Rattle.std.proofs.lemmas.Option.{slice_get-get_or}
use Rattle.lt_isa.specs.declared.symbols.Note.{Note}
use Rattle.trace_patterns.specs.Prelude.{note_of_place}
use Rattle.lt_checker.specs.Prelude.{IsEntry}

-- an entry depends only on the note that is found
entry_as : (all some more : List Note) (p : ℕ) (e : Option ℕ) → note_of_place more p ≡ note_of_place some p
    → IsEntry all some p e
    → IsEntry all more p e
entry_as all some more p None same h = same ∙ h
entry_as all some more p (Some i) same h = (h.0, same ∙ h.1)

-- one more note at the beginning
pub entry_more : (notes : List Note) (i next : ℕ) → next ≡ i + 1 → (table : List (Option ℕ)) (d : Note)
    → i < length notes → (get_or notes i d).pc < length table
    → ((p : ℕ) → p < length table → IsEntry notes (drop next notes) p (get_or table p None)) → (p : ℕ)
    → p < length table → IsEntry notes (drop i notes) p (get_or (set table (get_or notes i d).pc (Some i)) p None)
entry_more notes i next after table d inside fits before p within =
    let n = get_or notes i d in
    let front : drop i notes ≡ n ∷ drop next notes = drop_more notes i d inside
    ∙ ap (λ m. n ∷ drop m notes) (sym after) in
    ⊎_elim
    (λ (e : p ≡ n.pc).
    let found : note_of_place (drop i notes) p ≡ slice_get notes i =
    ap (λ ns. note_of_place ns p) front
    ∙ cond-true (n.pc == p) (Some n) (note_of_place (drop next notes) p) (eq-eqb n.pc p (sym e))
    ∙ sym (slice_get-get_or notes i d inside) in
    let entry : get_or (set table n.pc (Some i)) p None ≡ Some i =
    subst (λ (m : ℕ). get_or (set table n.pc (Some i)) m None ≡ Some i) (sym e)
    (get_or-set_same table n.pc (Some i) None fits) in
    subst (λ (o : Option ℕ). IsEntry notes (drop i notes) p o) (sym entry) (inside, found))
    (λ (ne : p ≡ n.pc → ⊥).
    let other : note_of_place (drop i notes) p ≡ note_of_place (drop next notes) p =
    ap (λ ns. note_of_place ns p) front
    ∙ cond-false (n.pc == p) (Some n) (note_of_place (drop next notes) p) (ne_eqb n.pc p (λ e. ne (sym e))) in
    let entry : get_or (set table n.pc (Some i)) p None ≡ get_or table p None = get_or-set_other table n.pc p
    (Some i) None ne in
    subst (λ (o : Option ℕ). IsEntry notes (drop i notes) p o) (sym entry)
    (entry_as notes (drop next notes) (drop i notes) p (get_or table p None) other (before p within)))
    (cases_eq p n.pc)

-- if all notes are before a place, none is found from there on
pub none_behind : (notes : List Note) (count p : ℕ) → All (λ n. n.pc < count) notes → count ≤ p
    → note_of_place notes p ≡ None
none_behind [] count p before behind = refl
none_behind (n ∷ notes) count p before behind =
    let first : n.pc < count = All-head (λ (m : Note). m.pc < count) n notes before in
    cond-false (n.pc == p) (Some n) (note_of_place notes p) (ne_eqb n.pc p (λ e. omega (arith, first, e)))
    ∙ none_behind notes count p (All-tail (λ (m : Note). m.pc < count) n notes before) behind
