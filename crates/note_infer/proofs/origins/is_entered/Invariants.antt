-- The places seen so far are in the region, before the place.
use Rattle.std.proofs.Common.{◌<◌, ◌≤◌, length, get_or}
use Rattle.note_infer.specs.Prelude.{IsFollowed}
use Rattle.note_infer.proofs.origins.is_entered.Given as goal

abbrev pub invariant-following : goal.invariant-following
invariant-following l = record {
  bound : l.link ≤ length l.origins.before.items;
  followed : IsFollowed l.origins.before.items (get_or l.origins.last.items l.inner 0) l.link
      (λ p. (l.place ≤ p) × (p < l.inner));
}

abbrev pub decreases-following : goal.decreases-following
decreases-following l = l.link
