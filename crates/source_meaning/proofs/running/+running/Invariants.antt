use Rattle.std.proofs.Common.{◌≡◌, ◌≤◌, drop}
use Rattle.src_tree.specs.Prelude.{loop}
use Rattle.source_meaning.specs.Prelude.{KeepsFit, placed_check, actions_of_all, holds_at, act_all, left_with}
use Rattle.source_meaning.proofs.running.+running.Given as goal

abbrev pub invariant-run_loop-loop-turns : goal.invariant-run_loop-loop-turns
invariant-run_loop-loop-turns l = record {
  left : loop (holds_at (placed_check l.check)) (act_all (actions_of_all l.body)) (left_with l.store l.turns)
      ≡ loop (holds_at (placed_check l.check)) (act_all (actions_of_all l.body)) (left_with l.fn.store l.fn.turns);
  fewer : l.turns ≤ l.fn.turns;
  kept : KeepsFit l.fn.store l.store;
}

abbrev pub decreases-run_loop-loop-turns : goal.decreases-run_loop-loop-turns
decreases-run_loop-loop-turns l = l.turns

abbrev pub invariant-run_steps-loop-step : goal.invariant-run_steps-loop-step
invariant-run_steps-loop-step l = record {
  left : act_all (actions_of_all (drop l.step-index l.steps)) (left_with l.store l.turns)
      ≡ act_all (actions_of_all l.steps) (left_with l.fn.store l.fn.turns);
  fewer : l.turns ≤ l.fn.turns;
  kept : KeepsFit l.fn.store l.store;
}
