use Rattle.std.proofs.Common.{◌≡◌, ◌-◌, List, [], ℕ, Option, length}
use Rattle.gr_base.specs.Prelude.{Adds}
use Rattle.run_data.specs.Prelude.{levels_behind}
use Rattle.call_steps.specs.Prelude.{FirstBanks, StandNow}
use Rattle.machine_verbs.proofs.levels.put_levels.Given as goal

abbrev pub invariant-loop-bank : goal.invariant-loop-bank
invariant-loop-bank g l = record {
  levels : List (List (Option ℕ));
  count : length levels ≡ l.bank - 2;
  stand : FirstBanks (StandNow l.machine.orams) levels;
  put : Adds (g.O.Sink.seen l.fn.out).held (g.O.Sink.seen l.out).held (levels_behind [] 2 levels);
  calm : (g.O.Sink.seen l.out).faults ≡ (g.O.Sink.seen l.fn.out).faults;
}
