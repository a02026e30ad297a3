-- The targets of the places so far are marked.
use Rattle.note_infer.specs.Prelude.{at_places, MarksBelow}
use Rattle.note_infer.proofs.targets.marked_targets.Given as goal

abbrev pub invariant-loop-place : goal.invariant-loop-place
invariant-loop-place l = MarksBelow l.object l.crossed.list (at_places l.states) l.place l.marks.items
