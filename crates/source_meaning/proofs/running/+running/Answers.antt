use Rattle.std.proofs.Common.{◌<◌, sym, ◌∙◌, arith}
use Rattle.source_meaning.specs.Prelude.{placed_check, actions_of_all, holds_at, act_all}
use Rattle.source_meaning.proofs.Keeping.{keeps_then}
use Rattle.source_meaning.proofs.PlacedMeaning.{acts_fall}
use Rattle.source_meaning.proofs.Turns.{ended, spent, onward}
use Rattle.source_meaning.proofs.running.+running.Goals as goal

pub run_loop-returns-then-turns-eq0-clause-left : goal.run_loop-returns-then-turns-eq0-clause-left
run_loop-returns-then-turns-eq0-clause-left t c =
    spent (holds_at (placed_check c.args.check.now)) (act_all (actions_of_all c.args.body.now)) c.loop-turns.store _
    c.loop-turns.turns (sym c.passes.ensures ∙ c.loop-turns-test.true) c.if-turns-eq0.true c.loop-turns.invariant.left

pub run_loop-returns-in-None-clause-left : goal.run_loop-returns-in-None-clause-left
run_loop-returns-in-None-clause-left t c =
    let some : 0 < c.loop-turns.turns = omega (arith, c.if-turns-eq0.false) in
    onward (holds_at (placed_check c.args.check.now)) (act_all (actions_of_all c.args.body.now)) c.loop-turns.store _
    (acts_fall (actions_of_all c.args.body.now)) c.loop-turns.turns _ (sym c.passes.ensures ∙ c.loop-turns-test.true)
    some c.in-None.ensures.left c.loop-turns.invariant.left

pub run_loop-loop-turns-preserved : goal.run_loop-loop-turns-preserved
run_loop-loop-turns-preserved t c = record {
  left =
      let some : 0 < c.loop-turns.turns = omega (arith, c.if-turns-eq0.false) in
      onward (holds_at (placed_check c.args.check.now)) (act_all (actions_of_all c.args.body.now)) c.loop-turns.store _
      (acts_fall (actions_of_all c.args.body.now)) c.loop-turns.turns _ (sym c.passes.ensures ∙ c.loop-turns-test.true)
      some c.in-Some.ensures.left c.loop-turns.invariant.left;
  fewer = omega (arith, c.in-Some.ensures.fewer, c.loop-turns.invariant.fewer);
  kept = keeps_then _ _ _ c.loop-turns.invariant.kept c.in-Some.ensures.kept;
}

pub run_loop-returns-clause-left : goal.run_loop-returns-clause-left
run_loop-returns-clause-left t c =
    ended (holds_at (placed_check c.args.check.now)) (act_all (actions_of_all c.args.body.now)) c.loop-turns.store _
    c.loop-turns.turns (sym c.passes.ensures ∙ c.loop-turns-test.false) c.loop-turns.invariant.left
