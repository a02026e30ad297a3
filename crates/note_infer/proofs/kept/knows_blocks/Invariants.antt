-- The banks of the blocks so far are known.
use Rattle.std.proofs.Common.{ℕ, ◌<◌, ◌≤◌}
use Rattle.note_infer.specs.Prelude.{KnowsBlockAt}
use Rattle.note_infer.proofs.kept.knows_blocks.Given as goal

abbrev pub invariant-loop-inner : goal.invariant-loop-inner
invariant-loop-inner l = (q : ℕ) → l.first ≤ q → q < l.inner → KnowsBlockAt l.object l.states q
