use Rattle.source_meaning.proofs.Joined.{placed_more, placed_all}
use Rattle.source_meaning.proofs.placing.+placing.Goals as goal

pub place_block-loop-statement-preserved : goal.place_block-loop-statement-preserved
place_block-loop-statement-preserved t c =
    placed_more c.args.decls.now c.loop-statement.steps.items c.push.new.self.items c.in_ok-place_statement.field-0
    c.args.statements.now c.loop-statement.statement-index c.statement-item.result _ c.loop-statement-test.true
    c.in_ok-push.ensures.items
    c.statement-item.is c.in_ok-place_statement.ensures c.loop-statement.invariant

pub place_block-returns : goal.place_block-returns
place_block-returns t c =
    placed_all c.args.decls.now c.loop-statement.steps.items c.args.statements.now c.loop-statement.statement-index _
    c.loop-statement-test.false c.loop-statement.invariant
