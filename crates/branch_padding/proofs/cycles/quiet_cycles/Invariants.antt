use Rattle.std.proofs.Common.{◌≡◌, ◌≤◌, length, drop}
use Rattle.branch_padding.specs.Prelude.{quiet_cycles}
use Rattle.branch_padding.proofs.cycles.quiet_cycles.Given as goal

abbrev pub invariant-loop-from : goal.invariant-loop-from
invariant-loop-from l = record {
  within : l.from ≤ length l.code;
  made : l.cycles ≡ quiet_cycles l.profile (drop l.from l.code);
}

abbrev pub decreases-loop-from : goal.decreases-loop-from
decreases-loop-from l = l.from
