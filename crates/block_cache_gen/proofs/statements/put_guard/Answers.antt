use Rattle.std.proofs.Common.{None}
use Rattle.src_tree.specs.Prelude.{tree_weight, expr_tree}
use Rattle.block_cache_gen.proofs.EmittedTrees.{room_for_right}
use Rattle.block_cache_gen.proofs.statements.put_guard.Goals as goal

pub put_expr-requires-2-clause-room : goal.put_expr-requires-2-clause-room
put_expr-requires-2-clause-room c =
    room_for_right c.args.emitter.now c.args.mode c.base_mask-base.result c.args.to None
    (expr_tree c.args.g.now.left)
    (tree_weight (expr_tree c.args.g.now.right)) c.args.out.now c.put_expr.new.out c.requires.room
    c.in_ok-put_expr.ensures.emitted
