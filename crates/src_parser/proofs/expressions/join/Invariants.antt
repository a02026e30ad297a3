use Rattle.std.proofs.Common.{◌≡◌, length}
use Rattle.src_tree.specs.Prelude.{expr_tree}
use Rattle.src_parser.specs.Prelude.{tree_joined, stack_of}
use Rattle.src_parser.proofs.expressions.join.Given as goal

abbrev pub invariant-loop-frame : goal.invariant-loop-frame
invariant-loop-frame l =
    tree_joined l.least (stack_of l.stack.items) (expr_tree l.tree) l.depth
    ≡ tree_joined l.fn.least (stack_of l.fn.stack.items) (expr_tree l.fn.tree) l.fn.depth

abbrev pub decreases-loop-frame : goal.decreases-loop-frame
decreases-loop-frame l = length l.stack.items
