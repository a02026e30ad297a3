-- Of the places seen so far those outside the region wait.
use Rattle.std.proofs.Common.{ℕ, ◌<◌, ◌≤◌, ◌⊎◌, length, get_or}
use Rattle.note_infer.specs.Prelude.{Waits, IsFollowed}
use Rattle.note_infer.proofs.origins.await_origins.Given as goal

abbrev pub invariant-following : goal.invariant-following
invariant-following l = record {
  bound : l.link ≤ length l.origins.before.items;
  keeps : (x : ℕ) → Waits l.initial.stack.items x → Waits l.stack.items x;
  inside : ((x : ℕ) → Waits l.initial.stack.items x → x < length l.origins.before.items) → (x : ℕ)
      → Waits l.stack.items x → x < length l.origins.before.items;
  followed : IsFollowed l.origins.before.items (get_or l.origins.last.items l.inner 0) l.link
      (λ p. ((l.place ≤ p) × (p < l.join)) ⊎ Waits l.stack.items p);
}

abbrev pub decreases-following : goal.decreases-following
decreases-following l = l.link
