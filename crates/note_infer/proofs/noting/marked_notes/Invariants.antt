-- The notes of the places so far.
use Rattle.note_infer.specs.Prelude.{at_places, NotesBelow}
use Rattle.note_infer.proofs.noting.marked_notes.Given as goal

abbrev pub invariant-loop-place : goal.invariant-loop-place
invariant-loop-place l = NotesBelow l.object l.marks (at_places l.states) l.place l.notes.items
