use Rattle.std.proofs.Common.{List, refl}
use Rattle.src_tree.specs.Prelude.{expr_tree}
use Rattle.src_tree.specs.declared.trees.Expr.{Expr}
use Rattle.procs_tree.specs.Prelude.{trees_of}
use Rattle.procs_pruning.specs.Prelude.{trees_seen}
use Rattle.procs_tree.proofs.Appended.{one_appended}
use Rattle.procs_pruning.proofs.live.each.Goals as goal

pub loop-argument-preserved : goal.loop-argument-preserved
loop-argument-preserved c =
    one_appended (λ (es : List Expr). trees_of es) c.args.arguments.now c.loop-argument.argument-index
    c.argument-item.result (expr_tree c.argument-item.result) (trees_seen c.loop-argument.all.items)
    (trees_seen c.add.new.arguments.items) (trees_of c.args.arguments.now) c.loop-argument-test.true c.argument-item.is
    refl c.in_ok-add.ensures c.loop-argument.invariant
