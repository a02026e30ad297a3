-- No place so far is entered from outside.
use Rattle.std.proofs.Common.{ℕ, ◌<◌}
use Rattle.note_infer.specs.Prelude.{LedFromWithin}
use Rattle.note_infer.proofs.kept.first_entered.Given as goal

abbrev pub invariant-loop-inner : goal.invariant-loop-inner
invariant-loop-inner l =
    (q : ℕ) → l.place < q → q < l.inner → LedFromWithin l.origins.last.items l.origins.before.items l.place q
