-- For the proofs and for private clauses only: a table from places to notes.
use Rattle.std.specs.Prelude.{◌≡◌, ℕ, ◌<◌, List, All, length, slice_get, slice_index_or, Option, Some, None}
use Rattle.lt_isa.specs.declared.symbols.Note.{Note}
use Rattle.trace_patterns.specs.Rules.{note_of_place}

-- an entry is the number, among all notes, of the note at a place among some of them
abbrev pub IsEntry : List Note → List Note → ℕ → Option ℕ → Type 0
IsEntry all some p None = note_of_place some p ≡ None
IsEntry all some p (Some i) = (i < length all) × (note_of_place some p ≡ slice_get all i)

-- each entry is the number of the note at its place
pub record IsTableOf (notes : List Note) (table : List (Option ℕ)) : Type 0 where
  pub entries : (p : ℕ) → p < length table → IsEntry notes notes p (slice_index_or table p None)

-- the table of an object's notes, with an entry for each place that has a note
pub record ServesNotes (notes : List Note) (table : List (Option ℕ)) : Type 0 where
  pub is : IsTableOf notes table
  pub within : All (λ n. n.pc < length table) notes
