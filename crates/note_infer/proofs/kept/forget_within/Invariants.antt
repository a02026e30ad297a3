-- What was known at the places so far is forgotten.
use Rattle.note_infer.specs.Prelude.{IsWithout}
use Rattle.note_infer.proofs.kept.forget_within.Given as goal

abbrev pub invariant-loop-inner : goal.invariant-loop-inner
invariant-loop-inner l = IsWithout l.place l.inner l.initial.states.items l.states.items
