use Rattle.std.proofs.Common.{ap, ◌∙◌}
use Rattle.block_cache_gen.specs.Prelude.{operand_mask, home_in}
use Rattle.std.proofs.lemmas.Result.{on_ok_weaker}
use Rattle.src_tree.specs.Prelude.{expr_tree}
use Rattle.block_cache_gen.proofs.EmittedStatements.{element_set, room_for_access, with_base}
use Rattle.block_cache_gen.proofs.Emitting.{grows_then}
use Rattle.block_cache_gen.proofs.statements.put_set_element.Goals as goal

pub put_access-requires-clause-room : goal.put_access-requires-clause-room
put_access-requires-clause-room c =
    room_for_access c.args.emitter.now c.args.mode c.operand-held.result (expr_tree c.args.index.now)
    (expr_tree c.args.value.now) c.args.out.now c.put_operand.new.out c.requires.room
    (with_base c.args.emitter.now c.args.mode c.operand-held.result (expr_tree c.args.value.now) 0
    c.base_mask-base.result c.args.out.now c.put_operand.new.out c.base_mask-base.ensures
    c.in_ok-put_operand.ensures.emitted)

pub returns-clause-emitted : goal.returns-clause-emitted
returns-clause-emitted c =
    on_ok_weaker c.put_stored.result
    (element_set c.args.emitter.now c.args.mode c.args.name.now c.bytes.result.now (expr_tree c.args.index.now)
    (expr_tree c.args.value.now)
    (home_in c.variable-array.result) c.label_of.result c.operand-held.result c.operand_register.result
    c.operand_mask-mask.result c.args.out.now
    c.put_operand.new.out c.put_access.new.out c.put_stored.new.out c.bytes.ensures.bytes
    c.variable-array.ensures.home c.label_of.ensures c.operand-held.ensures.register c.operand_register.ensures
    (c.operand_mask-mask.ensures
    ∙ ap (λ m. operand_mask c.operand-held.result c.label_of.result m 0) c.base_mask-base.ensures)
    (with_base c.args.emitter.now c.args.mode c.operand-held.result (expr_tree c.args.value.now) 0
    c.base_mask-base.result c.args.out.now c.put_operand.new.out c.base_mask-base.ensures
    c.in_ok-put_operand.ensures.emitted)
    c.in_ok-put_access.ensures.emitted)
    c.put_stored.ensures.appended

pub returns-in_err-put_access-clause-grows : goal.returns-in_err-put_access-clause-grows
returns-in_err-put_access-clause-grows c =
    grows_then c.args.out.now c.put_operand.new.out c.put_access.new.out c.put_operand.ensures.grows
    c.put_access.ensures.grows

pub returns-clause-grows : goal.returns-clause-grows
returns-clause-grows c =
    grows_then c.args.out.now c.put_access.new.out c.put_stored.new.out
    (grows_then c.args.out.now c.put_operand.new.out c.put_access.new.out c.put_operand.ensures.grows
    c.put_access.ensures.grows) c.put_stored.ensures.grows
