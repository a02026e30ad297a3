use Rattle.std.proofs.Common.{◌∙◌}
use Rattle.std.proofs.lemmas.Result.{on_ok_weaker}
use Rattle.src_tree.specs.Prelude.{test_of}
use Rattle.block_cache_gen.proofs.FrameClauses.{frame-test_promises}
use Rattle.block_cache_gen.proofs.FrameCalls.{frame_guard, on_ok_both}
use Rattle.block_cache_gen.proofs.calls.emit_guard.Goals as goal

pub returns : goal.returns
returns c =
    let t = test_of c.args.g.now in
    let same = c.new-emitter.ensures ∙ c.in_ok-prepared.ensures {u = tt} ∙ c.plain-frame.ensures.setting in
    let promised = frame-test_promises c.args.f.now c.new-emitter.result c.args.mode c.args.to t c.args.out.now
    c.put_guard.new.out c.requires.frame same c.requires.typed c.requires.indexes c.requires.left c.requires.right in
    record {
      runs = on_ok_weaker c.put_guard.result (λ x. let h = promised x in h.runs) c.put_guard.ensures.emitted;
      passes = on_ok_weaker c.put_guard.result (λ x. let h = promised x in h.passes) c.put_guard.ensures.emitted;
      walked = on_ok_weaker c.put_guard.result (λ x. let h = promised x in h.walked) c.put_guard.ensures.emitted;
      stores = on_ok_weaker c.put_guard.result (λ x. let h = promised x in h.stores) c.put_guard.ensures.emitted;
      words = c.put_guard.ensures.words;
      extends =
          on_ok_both c.put_guard.result c.put_guard.ensures.emitted c.put_guard.ensures.words
          (frame_guard c.args.f.now c.new-emitter.result c.args.mode c.args.to t c.args.out.now c.put_guard.new.out
          c.requires.frame same c.requires.typed c.requires.left c.requires.right c.requires.room);
      grows = c.put_guard.ensures.grows;
    }
