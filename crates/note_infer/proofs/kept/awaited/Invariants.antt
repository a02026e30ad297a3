-- The places wait that lead to the places so far.
use Rattle.note_infer.specs.Prelude.{AwaitsBelow}
use Rattle.note_infer.proofs.kept.awaited.Given as goal

abbrev pub invariant-loop-inner : goal.invariant-loop-inner
invariant-loop-inner l =
    AwaitsBelow l.origins.last.items l.origins.before.items l.place l.join l.inner l.stack.items
