use Rattle.std.proofs.Common.{◌≡◌, ◌+◌, ◌≤◌, length, drop}
use Rattle.flat_passes.specs.Values.{set_again}
use Rattle.flat_code.specs.Limits.{needs_name}
use Rattle.flat_code.specs.Owned.{statement_of, terms_of}
use Rattle.flat_code.proofs.variables.set_again.Given as goal

abbrev pub invariant-loop-i : goal.invariant-loop-i
invariant-loop-i l = record {
  below : l.i ≤ length l.before;
  made : statement_of l.made ≡ set_again needs_name (l.n + l.i) (terms_of (drop l.i l.before));
}

abbrev pub decreases-loop-i : goal.decreases-loop-i
decreases-loop-i l = l.i
