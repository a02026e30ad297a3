use Rattle.std.proofs.Common.{rules, List, ap, ◌∙◌}
use Rattle.std.specs.Prelude.{reverse}
use Rattle.module_passes.specs.declared.trees.Stmt.{Stmt}
use Rattle.module_passes.specs.Owned.{block_of_all}
use Rattle.module_passes.specs.BeforeRest.{all_before}
use Rattle.module_passes.proofs.Onto.{all_moved, one_more, no_deeper}
use Rattle.module_passes.proofs.returns.+moving.Goals as goal

pub tails-loop-statement-init : goal.tails-loop-statement-init
tails-loop-statement-init t c = record {
  no_deeper = search rules;
  moved =
      ap (λ (ss : List Stmt). all_before c.args.statements.items (block_of_all (reverse ss))) c.new-rest.ensures.items
      ∙ all_moved c.args.statements.items;
}

pub tails-loop-statement-preserved : goal.tails-loop-statement-preserved
tails-loop-statement-preserved t c = record {
  no_deeper =
      no_deeper c.loop-statement.left.items c.pop.new.self.items c.args.statements.items c.in-Some.statement
      c.in-Some.ensures.items c.loop-statement.invariant.no_deeper;
  moved =
      one_more c.loop-statement.left.items c.pop.new.self.items c.in-Some.statement
      (block_of_all (reverse c.loop-statement.rest.items)) (block_of_all (reverse c.in_ok-rest.rest.items)) _
      c.in-Some.ensures.items c.in_ok-rest.ensures c.loop-statement.invariant.moved;
}
