use Rattle.std.proofs.Common.{◌≡◌, ◌++◌, List, ℕ, Option, length}
use Rattle.std.specs.Prelude.{flat_map}
use Rattle.gr_base.specs.Prelude.{Adds}
use Rattle.run_data.specs.Prelude.{level_text, levels_head}
use Rattle.path_oram.proofs.Existing.{FirstLevels}
use Rattle.machine_verbs.proofs.levels.put_bank.Given as goal

abbrev pub invariant-loop-block : goal.invariant-loop-block
invariant-loop-block g l = record {
  levels : List (Option ℕ);
  count : length levels ≡ l.block;
  stand : FirstLevels l.oram.places levels;
  put : Adds (g.O.Sink.seen l.fn.out).held (g.O.Sink.seen l.out).held
      (levels_head l.bank ++ flat_map level_text levels);
  calm : (g.O.Sink.seen l.out).faults ≡ (g.O.Sink.seen l.fn.out).faults;
}
