-- Something is known at the places so far.
use Rattle.std.proofs.Common.{◌≡◌, ℕ, ◌<◌, get_or, Some, None}
use Rattle.trace_patterns.specs.Prelude.{Known}
use Rattle.note_infer.proofs.noting.first_unknown.Given as goal

abbrev pub invariant-loop-place : goal.invariant-loop-place
invariant-loop-place l = (q : ℕ) → q < l.place → (k : Known) × (get_or l.states q None ≡ Some k)
