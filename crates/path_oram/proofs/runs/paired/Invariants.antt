use Rattle.std.proofs.Common.{◌≡◌, ℕ, ◌<◌, length, get_or}
use Rattle.path_oram.proofs.runs.paired.Given as goal

abbrev pub invariant-loop-place : goal.invariant-loop-place
invariant-loop-place l = record {
  size : length l.pairs.items ≡ length l.from;
  pairs : (i : ℕ) → i < l.place → get_or l.pairs.items (get_or l.from i 0) 0 ≡ get_or l.to i 0;
}
