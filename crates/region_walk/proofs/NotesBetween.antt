-- Notes are in rising order of place, so those after a place are found by bisection.
use Rattle.std.proofs.Common.{◌≡◌, ℕ, ◌+◌, ◌<◌, ◌≤◌, Bool, true, false, ◌&&◌, nat_lt, nat_le, List, length, get_or, take, sym, ap, ◌∙◌, subst, ⊎_elim, refl, arith}
use Rattle.std.specs.List.{list_any}
use Rattle.std.specs.List.Sorted.{IsNonDecreasingBy, IsPartitionedBy, IsPartitionPoint}
use Rattle.std.proofs.lemmas.Bool.{cases_lt, cases_Bool, lt-ltb, le-ltb, ltb-false, leb-true, leb-false, and_from}
use Rattle.std.proofs.lemmas.List.{get_or_default, get_or-take, length-take}
use Rattle.std.proofs.lemmas.List.Folds.{list_any_at, list_any_none}
use Rattle.std.proofs.lemmas.List.Sorted.{IsNonDecreasingBy-from_all_adjacent, IsPartitionedBy-leb}
use Rattle.lt_isa.specs.declared.symbols.Note.{Note}
use Rattle.lt_isa.specs.Prelude.{Parts, IsInRange, NoteFits}
use Rattle.trace_patterns.specs.Prelude.{has_note_between}
use Rattle.gr_base.proofs.EachAfter.{EachBelow-from_after}
use Rattle.gr_base.proofs.AtLast.{at_last-get_or}

before_fails : (low high pc : ℕ) → pc ≤ low → (nat_lt low pc && nat_lt pc high) ≡ false
before_fails low high pc le = ap (λ (b : Bool). b && nat_lt pc high) (le-ltb low pc le)

and_false : (b : Bool) → (b && false) ≡ false
and_false true = refl
and_false false = refl

behind_fails : (low high pc : ℕ) → high ≤ pc → (nat_lt low pc && nat_lt pc high) ≡ false
behind_fails low high pc le =
    ap (λ (b : Bool). nat_lt low pc && b) (le-ltb pc high le) ∙ and_false (nat_lt low pc)

-- the first note after a place decides whether there is one before another place
module _ (notes : List Note) (low high next : ℕ)
    (before : (k : ℕ) (d : Note) → k < next → (get_or notes k d).pc ≤ low) where
  pub between-first : (d : Note) → next < length notes → low < (get_or notes next d).pc
      → IsNonDecreasingBy (λ n. n.pc) notes
      → nat_lt (get_or notes next d).pc high ≡ list_any (λ n. nat_lt low n.pc && nat_lt n.pc high) notes
  between-first d inside after rises =
      ⊎_elim
      (λ (yes : nat_lt (get_or notes next d).pc high ≡ true).
      yes ∙ sym (list_any_at (λ n. nat_lt low n.pc && nat_lt n.pc high) notes next d inside
      (and_from (nat_lt low (get_or notes next d).pc) (nat_lt (get_or notes next d).pc high)
      (lt-ltb low (get_or notes next d).pc after) yes)))
      (λ (no : nat_lt (get_or notes next d).pc high ≡ false).
      let far : high ≤ (get_or notes next d).pc = ltb-false (get_or notes next d).pc high no in
      no ∙ sym (list_any_none (λ n. nat_lt low n.pc && nat_lt n.pc high) notes (λ k e lt. ⊎_elim
      (λ (less : k < next). before_fails low high (get_or notes k e).pc (before k e less))
      (λ (le : next ≤ k).
      let up = rises next k d le lt in
      let same : (get_or notes k d).pc ≡ (get_or notes k e).pc = ap (λ (n : Note). n.pc)
      (get_or_default notes k d e lt) in
      behind_fails low high (get_or notes k e).pc (omega arith))
      (cases_lt k next))))
      (cases_Bool (nat_lt (get_or notes next d).pc high))

  pub between-none : length notes ≤ next → false ≡ list_any (λ n. nat_lt low n.pc && nat_lt n.pc high) notes
  between-none le =
      sym (list_any_none (λ n. nat_lt low n.pc && nat_lt n.pc high) notes
      (λ k e lt. before_fails low high (get_or notes k e).pc (before k e (omega arith))))

-- the notes of an object are in rising order of place
notes-rise : (o : Parts) → IsInRange o → IsNonDecreasingBy (λ n. n.pc) o.notes
notes-rise o range = IsNonDecreasingBy-from_all_adjacent (λ (n : Note). n.pc) o.notes (λ k d lt. up k d lt)
  where
    up : (k : ℕ) (d : Note) → k + 1 < length o.notes → (get_or o.notes k d).pc ≤ (get_or o.notes (k + 1) d).pc
    up k d lt =
        let fits = EachBelow-from_after (NoteFits (length o.banks)) o.notes range.notes (k + 1) d lt in
        let front = take (k + 1) o.notes in
        let last = at_last-get_or (λ (n : Note). n.pc + 1) front k d (omega (arith, length-take (k + 1) o.notes)) in
        let same : (get_or front k d).pc ≡ (get_or o.notes k d).pc = ap (λ (n : Note). n.pc)
        (get_or-take (k + 1) o.notes k d (omega arith)) in
        omega (arith, fits.pc.0, last, same)

-- the notes of an object, as the code has them
module _ (o : Parts) (range : IsInRange o) (notes : List Note) (same : notes ≡ o.notes) (low : ℕ) where
  rises : IsNonDecreasingBy (λ n. n.pc) notes
  rises = subst (λ (l : List Note). IsNonDecreasingBy (λ n. n.pc) l) (sym same) (notes-rise o range)

  -- the notes up to a place come first
  pub notes-parted : IsPartitionedBy (λ n. nat_le n.pc low) notes
  notes-parted = IsPartitionedBy-leb (λ (n : Note). n.pc) notes low rises

  -- the index of the first note after the place
  module _ (high next : ℕ)
      (point : IsPartitionPoint (λ (n : Note). nat_le n.pc low ≡ true) (λ (n : Note). nat_le n.pc low ≡ false) notes
      next) where
    -- whether that note is before another place
    pub between-found : (d : Note) → next < length notes
        → nat_lt (get_or notes next d).pc high ≡ has_note_between o low high
    between-found d inside =
        between-first notes low high next
        (λ k e lt. leb-true (get_or notes k e).pc low (point.0 k e (omega arith) lt)) d inside
        (leb-false (get_or notes next d).pc low (point.1 next d (omega arith) inside)) rises
        ∙ ap (list_any (λ n. nat_lt low n.pc && nat_lt n.pc high)) same

    -- if there is no such note, no note is between two places
    pub between-missed : length notes ≤ next → nat_lt next (length notes) ≡ has_note_between o low high
    between-missed le =
        le-ltb next (length notes) le
        ∙ between-none notes low high next
        (λ k e lt. leb-true (get_or notes k e).pc low (point.0 k e (omega arith) lt)) le
        ∙ ap (list_any (λ n. nat_lt low n.pc && nat_lt n.pc high)) same
