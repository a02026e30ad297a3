use Rattle.std.proofs.Common.{◌≡◌, ◌∙◌, ap, rules, sym, subst, Some, w64, to_z, of_z}
use Rattle.std.specs.Prelude.{OnSome, option_map, vec_items}
use Rattle.std.proofs.lemmas.Int.{wraps}
use Rattle.std.proofs.lemmas.Result.{on_ok_weaker}
use Rattle.src_tree.specs.Prelude.{expr_tree}
use Rattle.strength_reduction.specs.Prelude.{code_of}
use Rattle.block_cache_gen.specs.Prelude.{left_operand, steps_at, EmitsOperand, HasWords, home_in}
use Rattle.block_cache_gen.proofs.Emitting.{grows_then}
use Rattle.block_cache_gen.proofs.EmittedTrees.{access_fixed, access_worked, element_appended, operation_appended, room_for_found, room_behind_left, steps-low}
use Rattle.block_cache_gen.proofs.expressions.+expressions.Goals as goal

pub put_expr-steps_code-requires : goal.put_expr-steps_code-requires
put_expr-steps_code-requires t c = record {
  registers =
      steps-low c.args.emitter.now c.args.to (expr_tree c.args.e.now) c.in-Bin.op (expr_tree c.in-Bin.left.value)
      (expr_tree c.in-Bin.right.value) (ap expr_tree c.in-Bin.is) c.requires.registers;
}

pub put_expr-put_operand-requires : goal.put_expr-put_operand-requires
put_expr-put_operand-requires t c = (
  search rules,
  (
    search rules,
    (
      subst (λ e. OnSome c.left_operand-held.result (HasWords (expr_tree e)))
          (c.deref-in-Bin-2.ensures ∙ sym c.deref-in-Bin-4.ensures) c.left_operand-held.ensures.words,
      (search rules, search rules),
    ),
  ),
)

pub put_expr-put_operation-requires : goal.put_expr-put_operation-requires
put_expr-put_operation-requires t c = (
  search rules,
  (
    search rules,
    (
      subst (λ e. option_map vec_items c.in_ok-steps-in-Bin.steps
          ≡ option_map (code_of c.args.to) (steps_at c.args.emitter.now c.in-Bin.op (expr_tree e)))
          (c.deref-in-Bin.ensures ∙ sym c.deref-in-Bin-6.ensures) c.in_ok-steps-in-Bin.ensures.code,
      (
        subst (λ e. OnSome c.in_ok-steps-in-Bin.steps (HasWords (expr_tree e)))
            (c.deref-in-Bin.ensures ∙ sym c.deref-in-Bin-6.ensures) c.in_ok-steps-in-Bin.ensures.words,
        (
          search rules,
          room_behind_left c.args.emitter.now c.args.mode c.args.mask c.args.to c.left_operand-held.result
              (expr_tree c.args.e.now) c.in-Bin.op (expr_tree c.in-Bin.left.value)
              (expr_tree c.in-Bin.right.value) (expr_tree c.deref-in-Bin-4.result.now)
              (expr_tree c.deref-in-Bin-6.result.now) c.args.out.now c.put_operand.new.out c.requires.room
              (ap expr_tree c.in-Bin.is) (ap expr_tree c.deref-in-Bin-4.ensures)
              (ap expr_tree c.deref-in-Bin-6.ensures) c.in_ok-put_operand-in-Bin.ensures.emitted,
        ),
      ),
    ),
  ),
)

pub put_expr-returns-in_ok-put_operand-in-Bin-clause-emitted :
    goal.put_expr-returns-in_ok-put_operand-in-Bin-clause-emitted
put_expr-returns-in_ok-put_operand-in-Bin-clause-emitted t c =
    on_ok_weaker c.put_operation.result
    (operation_appended c.args.emitter.now c.args.mode c.args.mask c.args.to (expr_tree c.args.e.now) c.in-Bin.op
    (expr_tree c.in-Bin.left.value) (expr_tree c.in-Bin.right.value) (expr_tree c.deref-in-Bin-2.result.now)
    (expr_tree c.deref-in-Bin-4.result.now) (expr_tree c.deref-in-Bin-5.result.now)
    (expr_tree c.deref-in-Bin-6.result.now) c.label_of.result c.left_operand-held.result
    c.operand_register-from.result c.operand_mask-mask.result c.args.out.now c.put_operand.new.out
    c.put_operation.new.out (ap expr_tree c.in-Bin.is) (ap expr_tree c.deref-in-Bin-2.ensures)
    (ap expr_tree c.deref-in-Bin-4.ensures) (ap expr_tree c.deref-in-Bin-5.ensures)
    (ap expr_tree c.deref-in-Bin-6.ensures)
    (c.left_operand-held.ensures.register
    ∙ ap (λ e. left_operand c.args.emitter.now c.in-Bin.op (expr_tree c.deref-in-Bin-2.result.now) (expr_tree e))
    (c.deref-in-Bin-3.ensures ∙ sym c.deref-in-Bin-6.ensures))
    c.label_of.ensures c.operand_register-from.ensures c.operand_mask-mask.ensures
    c.in_ok-put_operand-in-Bin.ensures.emitted)
    c.put_operation.ensures.emitted

pub put_access-put_found_access-requires-clause-room : goal.put_access-put_found_access-requires-clause-room
put_access-put_found_access-requires-clause-room t c =
    room_for_found c.args.emitter.now c.args.access.mode c.args.access.mask c.args.access.to c.index_operand-held.result
    (expr_tree c.args.index.now) c.args.out.now c.put_operand.new.out c.requires.room
    c.in_ok-put_operand-in-None.ensures.emitted

pub put_access-returns-in-Some-clause-emitted : goal.put_access-returns-in-Some-clause-emitted
put_access-returns-in-Some-clause-emitted t c =
    let same : to_z w64 (of_z w64 c.in-Some.number) ≡ c.in-Some.number = search (rules, wraps) in
    on_ok_weaker c.put_fixed_access.result
    (access_fixed c.args.emitter.now c.args.access.mode (home_in c.args.access.array) c.args.access.mask c.args.access.to
    (expr_tree c.args.index.now) (to_z w64 (of_z w64 c.in-Some.number)) c.args.out.now c.put_fixed_access.new.out
    (sym c.fixed_index.ensures.fixed ∙ c.in-Some.is ∙ ap (λ z. Some z) (sym same)))
    c.put_fixed_access.ensures.appended

pub put_access-returns-in_ok-put_operand-in-None-clause-emitted :
    goal.put_access-returns-in_ok-put_operand-in-None-clause-emitted
put_access-returns-in_ok-put_operand-in-None-clause-emitted t c =
    on_ok_weaker c.put_found_access.result
    (access_worked c.args.emitter.now c.args.access.mode (home_in c.args.access.array) c.args.access.mask c.args.access.to
    (expr_tree c.args.index.now) c.args.out.now c.put_operand.new.out c.put_found_access.new.out
    (sym c.fixed_index.ensures.fixed ∙ c.in-None.is)
    (subst (λ q. EmitsOperand c.args.emitter.now c.args.access.mode c.args.access.mask c.args.access.to q (expr_tree c.args.index.now)
    c.args.out.now c.put_operand.new.out) c.index_operand-held.ensures.register
    c.in_ok-put_operand-in-None.ensures.emitted))
    c.put_found_access.ensures.appended

pub put_access-returns-in_ok-put_operand-in-None-clause-grows :
    goal.put_access-returns-in_ok-put_operand-in-None-clause-grows
put_access-returns-in_ok-put_operand-in-None-clause-grows t c =
    grows_then c.args.out.now c.put_operand.new.out c.put_found_access.new.out c.put_operand.ensures.grows
    c.put_found_access.ensures.grows

pub put_expr-returns-in_ok-put_access-in-Item-clause-emitted :
    goal.put_expr-returns-in_ok-put_access-in-Item-clause-emitted
put_expr-returns-in_ok-put_access-in-Item-clause-emitted t c =
    on_ok_weaker c.put_element.result
    (element_appended c.args.emitter.now c.args.mode c.args.mask c.args.to (expr_tree c.args.e.now) c.in-Item.name
    c.bytes-in-Item.result.now (expr_tree c.in-Item.index.value) (expr_tree c.deref.result.now)
    (expr_tree c.deref-in-Item.result.now) (home_in c.variable-array.result) c.args.out.now c.put_access.new.out c.put_element.new.out
    (ap expr_tree c.in-Item.is) c.bytes-in-Item.ensures.bytes (ap expr_tree c.deref.ensures)
    (ap expr_tree c.deref-in-Item.ensures) c.variable-array.ensures.home
    c.in_ok-put_access-in-Item.ensures.emitted)
    c.put_element.ensures.appended

pub put_expr-returns-in_ok-put_access-in-Item-clause-grows :
    goal.put_expr-returns-in_ok-put_access-in-Item-clause-grows
put_expr-returns-in_ok-put_access-in-Item-clause-grows t c =
    grows_then c.args.out.now c.put_access.new.out c.put_element.new.out c.put_access.ensures.grows
    c.put_element.ensures.grows

pub put_expr-returns-in_ok-put_operand-in-Bin-clause-grows :
    goal.put_expr-returns-in_ok-put_operand-in-Bin-clause-grows
put_expr-returns-in_ok-put_operand-in-Bin-clause-grows t c =
    grows_then c.args.out.now c.put_operand.new.out c.put_operation.new.out c.put_operand.ensures.grows
    c.put_operation.ensures.grows
