-- The marks of targets, and the notes that are made of them. (Only clauses of the search cite this.)
use Rattle.std.specs.Prelude.{◌≡◌, ℕ, ◌^◌, ◌<◌, ◌≤◌, ◌⊎◌, Bool, true, false, ℤ, List, [], length, slice_get, slice_index_or, Option, Some, None}
use Rattle.std.specs.Option.{option_map}
use Rattle.gr_base.specs.Lists.{EachAfter}
use Rattle.gr_word.specs.declared.operations.Cmp.{Cmp}
use Rattle.lt_isa.specs.declared.symbols.Note.{Note}
use Rattle.lt_isa.specs.declared.instructions.Instr.TheVariants.{Jmp, Br}
use Rattle.lt_isa.specs.Object.{Parts}
use Rattle.lt_isa.specs.Step.{target_of}
use Rattle.lt_isa.specs.Ranges.{IsInRange, NoteFits, next_place}
use Rattle.trace_patterns.specs.Known.{Known, note_known}
use Rattle.trace_patterns.specs.Rules.{note_of_place}
use Rattle.lt_checker.specs.declared.checks.CheckError.{CheckError}
use Rattle.note_infer.specs.Steps.{IsDead, AllReachable}
use Rattle.note_infer.specs.Ways.{is_crossed}
use Rattle.note_infer.specs.Least.{States, IsLast}
use Rattle.note_infer.specs.LeastNotes.{IsTarget}
use Rattle.note_infer.specs.declared.faults.InferError.{InferError}
use Rattle.note_infer.specs.declared.faults.InferError.TheVariants.{Dead, Refused, TooMany, Memory}
use Rattle.lt_checker.specs.declared.checks.CheckError.TheVariants as check

-- a jump, or a branch that isn't crossed, leads from one place to another of the code
pub data IsTargetOf (o : Parts) (crossed : List ℕ) : (p q : ℕ) → Type 0 where
  ByJump : (p q : ℕ) (offset : ℤ) → slice_get o.code p ≡ Some (Jmp offset) → q ≡ target_of o p offset
      → q < length o.code → IsTargetOf o crossed p q
  ByBranch : (p q : ℕ) (cmp : Cmp) (ra rb : ℕ) (offset : ℤ) → slice_get o.code p ≡ Some (Br cmp ra rb offset)
      → is_crossed crossed p ≡ false → q ≡ target_of o p offset → q < length o.code → IsTargetOf o crossed p q

abbrev pub is_marked_at : List Bool → ℕ → Bool
is_marked_at marks q = slice_index_or marks q false

-- one place is marked, if it is one of the code
pub record Marks (target : ℕ) (before after : List Bool) : Type 0 where
  pub size : length after ≡ length before
  pub keeps : (q : ℕ) → is_marked_at before q ≡ true → is_marked_at after q ≡ true
  pub here : target < length before → is_marked_at after target ≡ true
  pub only : (q : ℕ) → is_marked_at after q ≡ true → is_marked_at before q ≡ true ⊎ (q ≡ target)

-- the targets of one place are marked
pub record MarksFrom (o : Parts) (crossed : List ℕ) (place : ℕ) (before after : List Bool) : Type 0 where
  pub size : length after ≡ length before
  pub keeps : (q : ℕ) → is_marked_at before q ≡ true → is_marked_at after q ≡ true
  pub all : (q : ℕ) → IsTargetOf o crossed place q → is_marked_at after q ≡ true
  pub only : (q : ℕ) → is_marked_at after q ≡ true → is_marked_at before q ≡ true ⊎ IsTargetOf o crossed place q

-- the targets of the places so far are marked, and nothing else is
pub record MarksBelow (o : Parts) (crossed : List ℕ) (states : States) (bound : ℕ) (marks : List Bool) : Type 0 where
  pub size : length marks ≡ length o.code
  pub all : (p q : ℕ) (k : Known) → p < bound → states p ≡ Some k → IsTargetOf o crossed p q
      → is_marked_at marks q ≡ true
  pub only : (q : ℕ) → is_marked_at marks q ≡ true → IsTarget o crossed states q

abbrev pub claims_at : List Note → ℕ → Option Known
claims_at notes q = option_map note_known (note_of_place notes q)

-- the note that is made at a place
pub record IsNoteAt (marks : List Bool) (states : States) (place : ℕ) (n : Note) : Type 0 where
  pub marked : is_marked_at marks place ≡ true
  pub pc : n.pc ≡ place
  pub claim : states place ≡ Some (note_known n)
  pub secrets : n.secrets < 2 ^ 32
  pub slot_count : length n.slots ≡ 8

abbrev pub IsNoteOf : List Bool → States → ℕ → Option Note → Type 0
IsNoteOf marks states place None = (k : Known) → is_marked_at marks place ≡ true → states place ≡ Some k → ⊥
IsNoteOf marks states place (Some n) = IsNoteAt marks states place n

-- the notes at the marked places so far, with what is known there
pub record NotesBelow (o : Parts) (marks : List Bool) (states : States) (bound : ℕ) (notes : List Note) : Type 0 where
  pub few : length notes ≤ bound
  pub fits : EachAfter (NoteFits (length o.banks)) [] notes
  pub next : next_place notes ≤ bound
  pub has : (q : ℕ) (k : Known) → q < bound → is_marked_at marks q ≡ true → states q ≡ Some k
      → claims_at notes q ≡ Some k
  pub only : (q : ℕ) (k : Known) → claims_at notes q ≡ Some k → (is_marked_at marks q ≡ true) × (q < bound)

-- the lowest place where nothing is known, if there is one
pub record NothingIsKnown (states : List (Option Known)) (place : ℕ) : Type 0 where
  pub inside : place < length states
  pub unknown : slice_index_or states place None ≡ None
  pub lowest : (q : ℕ) → q < place → (k : Known) × (slice_index_or states q None ≡ Some k)

abbrev pub IsFirstUnknown : List (Option Known) → Option ℕ → Type 0
IsFirstUnknown states None = (q : ℕ) → q < length states → (k : Known) × (slice_index_or states q None ≡ Some k)
IsFirstUnknown states (Some place) = NothingIsKnown states place

-- the notes of an object without notes, and why there are none
pub record FindsNotes (o : Parts) (notes : List Note) : Type 0 where
  pub range : IsInRange o
  pub reachable : AllReachable o
  pub crossed : List ℕ
  pub states : States
  pub marks : List Bool
  pub last : IsLast o crossed states
  pub marked : MarksBelow o crossed states (length o.code) marks
  pub noted : NotesBelow o marks states (length o.code) notes

abbrev pub WhyNoNotes : Parts → InferError → Type 0
WhyNoNotes o (Dead place) = IsDead o place
WhyNoNotes o (Refused pc reason) = ⊥
WhyNoNotes o (TooMany count) = ⊥
WhyNoNotes o Memory = Unit {0}

-- what the check says of an object with its least notes
abbrev pub TellsRefusal : CheckError → InferError → Type 0
TellsRefusal (check.Refused pc reason object) e = e ≡ Refused pc reason
TellsRefusal (check.Memory object) e = e ≡ Memory
