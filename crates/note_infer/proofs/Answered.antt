-- Each object in range gets notes, or has a cause to get none.
use Rattle.std.proofs.Common.{◌≡◌, ◌≢◌, ℕ, zero, suc, ◌<◌, ◌≤◌, List, [], length, get_or, ◌⊎◌, inl, inr, Option, Some, None, refl, ap, ◌∙◌, ⊎_elim, arith}
use Rattle.std.proofs.lemmas.Bool.{cases_eq, cases_lt}
use Rattle.lt_isa.specs.declared.symbols.Note.{Note}
use Rattle.lt_isa.specs.Prelude.{Parts, IsInRange, most_notes}
use Rattle.lt_checker.proofs.AcceptanceLaws.{accepted-or-refused, refused_is_not_accepted}
use Rattle.trace_patterns.specs.Prelude.{Known, without_notes, Accepts, FirstRefusal}
use Rattle.trace_patterns.specs.declared.reasons.Reason.{Reason}
use Rattle.note_infer.specs.declared.faults.InferError.{InferError}
use Rattle.note_infer.specs.declared.faults.InferError.TheVariants.{Dead, Refused, TooMany, Memory}
use Rattle.note_infer.specs.Prelude.{with_notes, IsInferred, IsWhyNot, NoNotesWouldDo, IsAnswered, HasLeast, FindsNotes, NothingIsKnown}
use Rattle.note_infer.proofs.Inferring.{dead_found, all_reached, why_whole, least_found, found_in_range, bare_in_range, would_accept}
use Rattle.note_infer.proofs.LeastExist.{least_exists}
use Rattle.note_infer.proofs.NotesExist.{notes_found}

-- an object gets notes, or has a cause other than that memory ran out
pub data Answered (o : Parts) : Type 0 where
  Gets : (found : Parts) → IsInRange found → IsInferred o found → Answered o
  Fails : (why : InferError) → why ≢ Memory → IsWhyNot o why → NoNotesWouldDo o why → Answered o

-- the lowest place where nothing is known, if there is one
first_unknown : (states : List (Option Known)) (n : ℕ) → n ≤ length states
    → ((p : ℕ) × NothingIsKnown states p) ⊎ ((q : ℕ) → q < n → (k : Known) × (get_or states q None ≡ Some k))
first_unknown states zero le = inr (λ q lt. absurd (omega (arith, lt)))
first_unknown states (suc n) le =
    by (first_unknown states n (omega (arith, le))) (get_or states n None) refl
  where
    by : ((p : ℕ) × NothingIsKnown states p) ⊎ ((q : ℕ) → q < n → (k : Known) × (get_or states q None ≡ Some k))
        → (x : Option Known) → get_or states n None ≡ x
        → ((p : ℕ) × NothingIsKnown states p) ⊎ ((q : ℕ) → q < suc n → (k : Known) × (get_or states q None ≡ Some k))
    by (inl found) x is = inl found
    by (inr known) None is = inl (n, record { inside = omega (arith, le); unknown = is; lowest = known })
    by (inr known) (Some k) is = inr (λ q lt.
        ⊎_elim (λ (e : q ≡ n). (k, ap (λ (i : ℕ). get_or states i None) e ∙ is))
        (λ (ne : q ≡ n → ⊥). known q (omega (arith, lt, ne))) (cases_eq q n))

dead_not_memory : (p : ℕ) → Dead p ≢ Memory
dead_not_memory p e = absurd cc

many_not_memory : (n : ℕ) → TooMany n ≢ Memory
many_not_memory n e = absurd cc

refused_not_memory : (p : ℕ) (r : Reason) → Refused p r ≢ Memory
refused_not_memory p r e = absurd cc

module _ (o : Parts) (range : IsInRange o) (notes : List Note) (f : FindsNotes (without_notes o) notes) where
  judged : length notes ≤ most_notes → Accepts (with_notes o notes)
      ⊎ ((place : ℕ) × (reason : Reason) × FirstRefusal (with_notes o notes) place reason) → Answered o
  judged few (inl accepts) = Gets (with_notes o notes) (found_in_range o notes f few) (record {
    notes = notes;
    least = least_found o notes f;
    few = few;
    is = refl;
    accepts = accepts;
  })
  judged few (inr r) =
      Fails (Refused r.0 r.1) (refused_not_memory r.0 r.1)
      (record {
        notes = notes;
        least = least_found o notes f;
        few = few;
        in_range = found_in_range o notes f few;
        refused = r.2;
      })
      (λ others w. refused_is_not_accepted (with_notes o notes) r.0 r.1 r.2 (would_accept o notes others f w))

  counted : (most_notes < length notes) ⊎ (length notes ≤ most_notes) → Answered o
  counted (inl many) =
      Fails (TooMany (length notes)) (many_not_memory (length notes))
      (record { notes = notes; least = least_found o notes f; many = many; is = refl }) tt
  counted (inr few) = judged few (accepted-or-refused (with_notes o notes))

pub answered : (o : Parts) → IsInRange o → Answered o
answered o range =
    let bare = without_notes o in
    let bare_range = bare_in_range o range in
    let first = least_exists bare [] bare_range in
    by bare_range first.0 first.1 (first_unknown first.0 (length first.0) (omega arith))
  where
    by : IsInRange (without_notes o) → (states : List (Option Known)) → HasLeast (without_notes o) [] states
        → ((p : ℕ) × NothingIsKnown states p)
        ⊎ ((q : ℕ) → q < length states → (k : Known) × (get_or states q None ≡ Some k)) → Answered o
    by bare_range states has (inl d) =
        Fails (Dead d.0) (dead_not_memory d.0) (why_whole o (Dead d.0) (dead_found (without_notes o) states d.0 has d.1))
        tt
    by bare_range states has (inr known) =
        let n = notes_found o range (all_reached (without_notes o) states has known) in
        counted o range n.0 n.1 (cases_lt most_notes (length n.0))

pub is_answered : (o : Parts) → IsInRange o → IsAnswered o
is_answered o range = by (answered o range)
  where
    by : Answered o → IsAnswered o
    by (Gets found in_range inferred) = inl (found, inferred)
    by (Fails why told cause suffices) = inr (why, told, cause)
