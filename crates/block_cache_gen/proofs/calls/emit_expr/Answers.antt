use Rattle.std.proofs.Common.{None, ◌∙◌}
use Rattle.std.proofs.lemmas.Result.{on_ok_weaker}
use Rattle.src_tree.specs.Prelude.{expr_tree}
use Rattle.block_cache_gen.proofs.EmittedStatements.{with_base}
use Rattle.block_cache_gen.proofs.FrameClauses.{frame-expr_promises}
use Rattle.block_cache_gen.proofs.FrameCalls.{frame_expr, on_ok_both}
use Rattle.block_cache_gen.proofs.calls.emit_expr.Goals as goal

pub returns : goal.returns
returns c =
    let e = expr_tree c.args.e.now in
    let same = c.new-emitter.ensures ∙ c.in_ok-prepared.ensures {u = tt} ∙ c.plain-frame.ensures.setting in
    let promised = frame-expr_promises c.args.f.now c.new-emitter.result c.args.mode c.args.to e c.args.out.now
    c.put_expr.new.out c.requires.frame same c.requires.typed c.requires.indexes c.requires.registers in
    let emitted = on_ok_weaker c.put_expr.result
    (with_base c.new-emitter.result c.args.mode None e c.args.to c.base_mask.result c.args.out.now c.put_expr.new.out
    c.base_mask.ensures) c.put_expr.ensures.emitted in
    record {
      runs = on_ok_weaker c.put_expr.result (λ x. let h = promised x in h.runs) emitted;
      passes = on_ok_weaker c.put_expr.result (λ x. let h = promised x in h.passes) emitted;
      walked = on_ok_weaker c.put_expr.result (λ x. let h = promised x in h.walked) emitted;
      stores = on_ok_weaker c.put_expr.result (λ x. let h = promised x in h.stores) emitted;
      words = c.put_expr.ensures.words;
      extends =
          on_ok_both c.put_expr.result emitted c.put_expr.ensures.words
          (frame_expr c.args.f.now c.new-emitter.result c.args.mode c.args.to e c.args.out.now c.put_expr.new.out
          c.requires.frame same c.requires.typed c.requires.registers c.requires.room);
      grows = c.put_expr.ensures.grows;
    }
