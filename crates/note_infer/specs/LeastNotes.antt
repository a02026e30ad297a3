-- The least notes of an object, and when the check accepts none. (This project's profile; notes are the type
-- annotations of L_T, GhostRider, ASPLOS 2015.)
use Rattle.std.specs.Prelude.{◌≡◌, ℕ, ◌<◌, ◌||◌, ℤ, true, false, List, length, slice_get, Some}
use Rattle.gr_word.specs.declared.operations.Cmp.{Cmp}
use Rattle.lt_isa.specs.declared.symbols.Note.{Note}
use Rattle.lt_isa.specs.declared.instructions.Instr.TheVariants.{Jmp, Br}
use Rattle.lt_isa.specs.Object.{Parts}
use Rattle.lt_isa.specs.Step.{target_of}
use Rattle.trace_patterns.specs.Known.{Known, is_secret}
use Rattle.trace_patterns.specs.Rules.{Opens, claimed_at, ruling_at}
use Rattle.trace_patterns.specs.Visits.{VisitedAt}
use Rattle.trace_patterns.specs.Accepts.{Accepts}
use Rattle.note_infer.specs.Steps.{AllReachable}
use Rattle.trace_patterns.specs.Carries.{without_notes}
use Rattle.note_infer.specs.Ways.{is_crossed}
use Rattle.note_infer.specs.Least.{States, IsLast}

-- the target, inside the code, of a jump that is reached, or of a branch that is reached and isn't crossed
pub data IsTarget (o : Parts) (crossed : List ℕ) (states : States) : ℕ → Type 0 where
  OfJump : (p q : ℕ) (k : Known) (offset : ℤ)
      → states p ≡ Some k → slice_get o.code p ≡ Some (Jmp offset) → q ≡ target_of o p offset → q < length o.code
      → IsTarget o crossed states q
  OfBranch : (p q : ℕ) (k : Known) (cmp : Cmp) (ra rb : ℕ) (offset : ℤ)
      → states p ≡ Some k → slice_get o.code p ≡ Some (Br cmp ra rb offset) → is_crossed crossed p ≡ false
      → q ≡ target_of o p offset → q < length o.code → IsTarget o crossed states q

-- an object with other notes
abbrev pub with_notes : Parts → List Note → Parts
with_notes o notes = record o { notes = notes }

-- there are notes at the targets, and nowhere else, with what is known there
pub record StandAtTargets (o : Parts) (crossed : List ℕ) (states : States) (notes : List Note) : Type 0 where
  pub has : (q : ℕ) (k : Known) → IsTarget o crossed states q → states q ≡ Some k
      → claimed_at (with_notes o notes) q ≡ Some k
  pub only : (q : ℕ) (claimed : Known) → claimed_at (with_notes o notes) q ≡ Some claimed
      → IsTarget o crossed states q

-- the least notes; the object's own notes are not looked at
pub record AreLeastNotes (o : Parts) (notes : List Note) : Type 0 where
  pub crossed : List ℕ
  pub states : States
  pub last : IsLast (without_notes o) crossed states
  pub stand : StandAtTargets (without_notes o) crossed states notes

-- a branch opens a region in public code
pub record OpensAt (o : Parts) (p : ℕ) : Type 0 where
  pub known : Known
  pub offset : ℤ
  pub visited : VisitedAt o p known
  pub opens : ruling_at o p known ≡ Opens offset

-- Under its notes the branches of an object that open regions in public code are those that are reached and crossed at
-- last, and each of them compares a register that is secret in the least states.
pub record OpensTheSame (o : Parts) (crossed : List ℕ) (states : States) : Type 0 where
  pub only : (p : ℕ) → OpensAt o p → is_crossed crossed p ≡ true
  pub all : (p : ℕ) (k : Known) → states p ≡ Some k → is_crossed crossed p ≡ true → OpensAt o p
  pub secret : (p : ℕ) (k : Known) (cmp : Cmp) (ra rb : ℕ) (offset : ℤ) → states p ≡ Some k
      → is_crossed crossed p ≡ true
      → slice_get o.code p ≡ Some (Br cmp ra rb offset) → (is_secret k ra || is_secret k rb) ≡ true

-- The theorem: some notes make the object accepted, and open the regions that are crossed at last. Then the least notes
-- make it accepted.
abbrev pub LeastAreAccepted : Parts → Type 0
LeastAreAccepted o = (notes least : List Note) (crossed : List ℕ) (states : States)
    → AllReachable o → Accepts (with_notes o notes)
    → IsLast (without_notes o) crossed states → OpensTheSame (with_notes o notes) crossed states
    → StandAtTargets (without_notes o) crossed states least → Accepts (with_notes o least)
