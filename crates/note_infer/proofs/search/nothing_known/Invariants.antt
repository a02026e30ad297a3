-- Nothing is known at the places so far.
use Rattle.std.proofs.Common.{◌≡◌, ℕ, ◌≤◌, ◌-◌, length, get_or, None}
use Rattle.note_infer.proofs.search.nothing_known.Given as goal

abbrev pub invariant-filling : goal.invariant-filling
invariant-filling l = record {
  size : length l.states.items ≤ l.count;
  nothing : (p : ℕ) → get_or l.states.items p None ≡ None;
}

abbrev pub decreases-filling : goal.decreases-filling
decreases-filling l = l.count - length l.states.items
