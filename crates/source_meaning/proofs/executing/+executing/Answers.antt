use Rattle.src_tree.specs.Prelude.{statement_of}
use Rattle.source_meaning.specs.Prelude.{action_of, left_with}
use Rattle.source_meaning.proofs.PlacedMeaning.{placed_run}
use Rattle.source_meaning.proofs.executing.+executing.Goals as goal

pub execute-returns-in_ok-step-in-While-clause-left : goal.execute-returns-in_ok-step-in-While-clause-left
execute-returns-in_ok-step-in-While-clause-left t c =
    placed_run c.args.decls.now (statement_of c.args.s.now) (left_with c.args.store.now c.args.turns)
    (action_of c.in_ok-step-in-While.step) _ c.in_ok-step-in-While.ensures c.run_step.ensures.left
