use Rattle.std.proofs.Common.{◌+◌, ◌*◌}
use Rattle.src_tree.specs.Prelude.{tree_weight, expr_tree}
use Rattle.block_cache_gen.proofs.expressions.+expressions.Given as goal

abbrev pub decreases-put_expr : goal.decreases-put_expr
decreases-put_expr l = 3 * tree_weight (expr_tree l.e.now)

abbrev pub decreases-put_operand : goal.decreases-put_operand
decreases-put_operand l = 3 * tree_weight (expr_tree l.e.now) + 1

abbrev pub decreases-put_access : goal.decreases-put_access
decreases-put_access l = 3 * tree_weight (expr_tree l.index.now) + 2

abbrev pub decreases-put_operation : goal.decreases-put_operation
decreases-put_operation l = 3 * tree_weight (expr_tree l.right.now) + 2
