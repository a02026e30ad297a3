use Rattle.std.proofs.Common.{◌≡◌, ◌≤◌, ◌*◌, ◌^◌, take, unsigned_abs}
use Rattle.call_steps.specs.Prelude.{sum_of}
use Rattle.ghost_cli.proofs.histogram.sum_of_counts.Given as goal

abbrev pub invariant-loop-count : goal.invariant-loop-count
invariant-loop-count l = record {
  sum : l.sum ≡ sum_of (take l.count-index l.count-items);
  small : unsigned_abs l.sum ≤ l.count-index * 2 ^ 63;
}
