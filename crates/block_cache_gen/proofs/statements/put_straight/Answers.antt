use Rattle.std.proofs.Common.{refl, arith}
use Rattle.std.proofs.lemmas.Result.{on_ok_weaker}
use Rattle.src_tree.specs.Prelude.{expr_tree, Operation}
use Rattle.block_cache_gen.proofs.EmittedStatements.{straight_emitted}
use Rattle.block_cache_gen.proofs.EmittedTrees.{room_behind_left}
use Rattle.block_cache_gen.proofs.statements.put_straight.Goals as goal

pub put_operand-requires-2-clause-room : goal.put_operand-requires-2-clause-room
put_operand-requires-2-clause-room c =
    let left = expr_tree c.args.left.now in
    let right = expr_tree c.args.right.now in
    let room = room_behind_left c.args.emitter.now c.args.mode c.base_mask-base.result 0 c.operand-first.result
    (Operation c.args.op left right) c.args.op left right left right c.args.out.now c.put_operand.new.out
    c.requires.room refl refl refl c.in_ok-put_operand.ensures.emitted in
    omega (arith, room)

pub returns-clause-emitted : goal.returns-clause-emitted
returns-clause-emitted c =
    on_ok_weaker c.put.result
    (straight_emitted c.args.emitter.now c.args.mode c.args.to c.args.op (expr_tree c.args.left.now)
    (expr_tree c.args.right.now) c.operand-first.result c.operand-second.result c.label_of.result
    c.operand_register.result c.operand_register-2.result c.base_mask-base.result c.operand_mask-mask.result
    c.args.out.now c.put_operand.new.out c.put_operand-2.new.out c.put.new.self c.operand-first.ensures.register
    c.operand-second.ensures.register c.operand_register.ensures c.operand_register-2.ensures c.base_mask-base.ensures
    c.label_of.ensures c.operand_mask-mask.ensures c.in_ok-put_operand.ensures.emitted
    c.in_ok-put_operand-2.ensures.emitted)
    c.put.ensures.appended
