-- The lists have the places so far.
use Rattle.note_infer.specs.Prelude.{OriginsBelow}
use Rattle.note_infer.proofs.origins.told_origins.Given as goal

abbrev pub invariant-loop-place : goal.invariant-loop-place
invariant-loop-place l = OriginsBelow l.object l.place l.last.items l.before.items
