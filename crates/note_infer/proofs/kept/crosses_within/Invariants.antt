-- No branch so far is crossed.
use Rattle.std.proofs.Common.{◌≡◌, ℕ, ◌<◌, false}
use Rattle.note_infer.specs.Prelude.{is_crossed}
use Rattle.note_infer.proofs.kept.crosses_within.Given as goal

abbrev pub invariant-loop-inner : goal.invariant-loop-inner
invariant-loop-inner l = (q : ℕ) → l.place < q → q < l.inner → is_crossed l.crossed.list q ≡ false
