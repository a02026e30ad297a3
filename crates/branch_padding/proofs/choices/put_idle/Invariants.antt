use Rattle.std.proofs.Common.{◌-◌, ◌≤◌}
use Rattle.block_cache_gen.specs.Prelude.{Appended, no_notes}
use Rattle.branch_padding.specs.Prelude.{idle}
use Rattle.branch_padding.proofs.choices.put_idle.Given as goal

abbrev pub invariant-loop-done : goal.invariant-loop-done
invariant-loop-done l = record {
  within : l.done ≤ l.cycles;
  made : Appended l.fn.out l.out (idle l.done) no_notes;
}

abbrev pub decreases-loop-done : goal.decreases-loop-done
decreases-loop-done l = l.cycles - l.done
