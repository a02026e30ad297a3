-- The places of an object's notes.
use Rattle.std.proofs.Common.{ℕ, ◌+◌, ◌<◌, ◌≤◌, List, [], ◌∷◌, ◌++◌, length, ap, arith, append_assoc}
use Rattle.std.specs.Prelude.{All}
use Rattle.std.proofs.lemmas.List.{append-nil}
use Rattle.std.proofs.lemmas.List.Elements.{All-nil, All-cons}
use Rattle.lt_isa.specs.declared.symbols.Note.{Note}
use Rattle.lt_isa.specs.Prelude.{Parts, NoteFits, next_place, IsInRange}
use Rattle.gr_base.specs.Prelude.{EachAfter}
use Rattle.gr_base.proofs.AtLast.{at_last-push}

-- the first place after some notes doesn't fall if more notes follow
next_place-append : (banks : ℕ) (before notes : List Note) → EachAfter (NoteFits banks) before notes
    → next_place before ≤ next_place (before ++ notes)
next_place-append banks before [] each = omega (arith, ap next_place (append-nil before))
next_place-append banks before (n ∷ notes) each =
    let rest = next_place-append banks (before ++ n ∷ []) notes each.1 in
    omega (
      arith,
      rest,
      each.0.pc.0,
      at_last-push (λ (m : Note). m.pc + 1) before n,
      ap next_place (append_assoc before (n ∷ []) notes),
    )

notes_before : (banks size : ℕ) (before notes : List Note) → EachAfter (NoteFits banks) before notes
    → next_place (before ++ notes) ≤ size → All (λ (n : Note). n.pc < size) notes
notes_before banks size before [] each fits = All-nil (λ (n : Note). n.pc < size)
notes_before banks size before (n ∷ notes) each fits =
    let same = append_assoc before (n ∷ []) notes in
    let fits' : next_place (before ++ n ∷ [] ++ notes) ≤ size = omega (arith, fits, ap next_place same) in
    let here : n.pc < size = omega (
      arith,
      fits',
      next_place-append banks (before ++ n ∷ []) notes each.1,
      at_last-push (λ (m : Note). m.pc + 1) before n,
    ) in
    All-cons (λ (m : Note). m.pc < size) n notes here (notes_before banks size (before ++ n ∷ []) notes each.1 fits')

-- every note is at a place of the code
pub notes-inside : (o : Parts) → IsInRange o → All (λ (n : Note). n.pc < length o.code) o.notes
notes-inside o range = notes_before (length o.banks) (length o.code) [] o.notes range.notes range.behind_notes
