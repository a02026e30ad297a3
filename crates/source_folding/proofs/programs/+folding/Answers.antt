use Rattle.source_folding.proofs.Joined.{folded_more, folded_all, numbers_more, numbers_all}
use Rattle.source_folding.proofs.programs.+folding.Goals as goal

pub folded_block-loop-statement-preserved : goal.folded_block-loop-statement-preserved
folded_block-loop-statement-preserved t c = record {
  folded =
      folded_more c.loop-statement.made.items c.push.new.self.items c.in_ok-folded_statement.field-0
      c.args.statements.now c.loop-statement.statement-index c.statement-item.result _ c.loop-statement-test.true
      c.in_ok-push.ensures.items c.statement-item.is c.in_ok-folded_statement.ensures.folded
      c.loop-statement.invariant.folded;
  numbers =
      numbers_more _ c.args.statements.now c.loop-statement.statement-index c.statement-item.result
      c.loop-statement-test.true c.statement-item.is c.in_ok-folded_statement.ensures.numbers
      c.loop-statement.invariant.numbers;
}

pub folded_block-returns : goal.folded_block-returns
folded_block-returns t c = record {
  folded =
      folded_all c.loop-statement.made.items c.args.statements.now c.loop-statement.statement-index _
      c.loop-statement-test.false c.loop-statement.invariant.folded;
  numbers =
      numbers_all _ c.args.statements.now c.loop-statement.statement-index c.loop-statement-test.false
      c.loop-statement.invariant.numbers;
}
