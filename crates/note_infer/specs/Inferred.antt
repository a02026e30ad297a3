-- What is answered where notes are to be found: the object with its least notes, where that is accepted; and else why
-- not.
-- (This project's profile.)
use Rattle.std.specs.Prelude.{◌≡◌, ◌≢◌, ℕ, ◌<◌, ◌≤◌, ◌⊎◌, List, [], length, map}
use Rattle.gr_base.specs.Lists.{EachAfter}
use Rattle.lt_isa.specs.declared.symbols.Note.{Note}
use Rattle.lt_isa.specs.Object.{Parts}
use Rattle.lt_isa.specs.Ranges.{IsInRange, next_place}
use Rattle.lt_isa.specs.Limits.{most_notes}
use Rattle.trace_patterns.specs.Known.{Known, note_known}
use Rattle.trace_patterns.specs.Accepts.{Accepts, FirstRefusal}
use Rattle.note_infer.specs.declared.faults.InferError.{InferError}
use Rattle.note_infer.specs.declared.faults.InferError.TheVariants.{Dead, Refused, TooMany, Memory}
use Rattle.note_infer.specs.Steps.{IsDead, AllReachable}
use Rattle.trace_patterns.specs.declared.reasons.Reason.{Reason}
use Rattle.trace_patterns.specs.Carries.{without_notes}
use Rattle.note_infer.specs.Least.{States, IsLast}
use Rattle.note_infer.specs.LeastNotes.{with_notes, AreLeastNotes, OpensTheSame}

-- the least notes, each after those before it
pub record ListLeastNotes (o : Parts) (notes : List Note) : Type 0 where
  pub are : AreLeastNotes o notes
  pub rise : EachAfter (λ before n. next_place before ≤ n.pc) [] notes

-- They are one list: the same places with the same claims.
abbrev pub claim_of : Note → ℕ × Known
claim_of n = (n.pc, note_known n)

abbrev pub LeastNotesAreOne : Parts → Type 0
LeastNotesAreOne o = (one two : List Note) → ListLeastNotes o one → ListLeastNotes o two
    → map claim_of one ≡ map claim_of two

-- An object in range has such a list if all its places are reachable.
abbrev pub LeastNotesExist : Parts → Type 0
LeastNotesExist o = IsInRange o → AllReachable o → (notes : List Note) × ListLeastNotes o notes

-- all places are reachable, and these are the least notes
pub record HasLeastNotes (o : Parts) (notes : List Note) : Type 0 where
  pub reachable : AllReachable o
  pub listed : ListLeastNotes o notes

pub record IsInferred (o found : Parts) : Type 0 where
  pub notes : List Note
  pub least : HasLeastNotes o notes
  pub few : length notes ≤ most_notes
  pub is : found ≡ with_notes o notes
  pub accepts : Accepts found

-- Rule: infer/note-count.
pub record AreTooMany (o : Parts) (count : ℕ) : Type 0 where
  pub notes : List Note
  pub least : HasLeastNotes o notes
  pub many : most_notes < length notes
  pub is : count ≡ length notes

-- why: by arguments that aren't clauses, reasons 5 and 6 come only at a crossed branch that compares public words,
-- since elsewhere no more is secret than in the least states, and each target has its note. Reason 8 never comes: no
-- region with a halt in it is crossed, so the target of its branch gets a note, and a note within a region is refused
-- with 11 before its arms are walked. So the target would be the join, and no steps would lead from the halt to the
-- place after it.
-- Rule: infer/refused.
pub record IsRefusedWith (o : Parts) (pc : ℕ) (reason : Reason) : Type 0 where
  pub notes : List Note
  pub least : HasLeastNotes o notes
  pub few : length notes ≤ most_notes
  pub in_range : IsInRange (with_notes o notes)
  pub refused : FirstRefusal (with_notes o notes) pc reason

-- memory may run out at any object
abbrev pub IsWhyNot : Parts → InferError → Type 0
IsWhyNot o (Dead place) = IsDead o place
IsWhyNot o (Refused pc reason) = IsRefusedWith o pc reason
IsWhyNot o (TooMany count) = AreTooMany o count
IsWhyNot o Memory = Unit {0}

-- An object gets notes, or one of the causes is true of it; that memory ran out isn't one.
abbrev pub IsAnswered : Parts → Type 0
IsAnswered o = ((found : Parts) × IsInferred o found) ⊎ ((why : InferError) × (why ≢ Memory) × IsWhyNot o why)

-- Some notes make the object accepted, and open the regions that are crossed at last.
pub record WouldDo (o : Parts) (notes : List Note) : Type 0 where
  pub crossed : List ℕ
  pub states : States
  pub last : IsLast (without_notes o) crossed states
  pub opens : OpensTheSame (with_notes o notes) crossed states
  pub accepts : Accepts (with_notes o notes)

-- where the least notes are refused, no such notes are
abbrev pub NoNotesWouldDo : Parts → InferError → Type 0
NoNotesWouldDo o (Refused pc reason) = (notes : List Note) → ¬ WouldDo o notes
NoNotesWouldDo o other = Unit {0}
