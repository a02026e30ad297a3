use Rattle.std.proofs.Common.{◌∙◌, length}
use Rattle.std.proofs.lemmas.Result.{on_ok_weaker}
use Rattle.src_tree.specs.Prelude.{statement_of}
use Rattle.block_cache_gen.proofs.FrameCalls.{on_ok_both}
use Rattle.branch_padding.proofs.FrameBranches.{frame-branch_means, call_few, call_choice, call_typed, call_low, call_room, call_promises, call_extends}
use Rattle.branch_padding.proofs.calls.emit_secret_if.Goals as goal

pub returns-in_err-prepared-clause-means : goal.returns-in_err-prepared-clause-means
returns-in_err-prepared-clause-means c =
    frame-branch_means c.args.f.now c.requires.frame c.args.mode (statement_of c.args.s.now) c.requires.branch

pub put_branch-requires : goal.put_branch-requires
put_branch-requires c =
    let f = c.args.f.now in
    let s = statement_of c.args.s.now in
    let e = c.new-emitter.result in
    let same = c.new-emitter.ensures ∙ c.in_ok-prepared.ensures {u = tt} ∙ c.plain-frame.ensures.setting in
    record {
      few = call_few f c.requires.frame e same c.args.mode;
      choice = call_choice f c.requires.frame e same c.args.mode s c.requires.branch;
      typed = call_typed f c.requires.frame e same c.args.mode s c.requires.branch;
      low = call_low f c.requires.frame e same c.args.mode s c.requires.branch;
      room =
          call_room f c.requires.frame e same c.args.mode s c.requires.branch (length c.args.out.now.code.items)
          c.requires.room;
    }

pub returns : goal.returns
returns c =
    let s = statement_of c.args.s.now in
    let e = c.new-emitter.result in
    let same = c.new-emitter.ensures ∙ c.in_ok-prepared.ensures {u = tt} ∙ c.plain-frame.ensures.setting in
    let promised = call_promises c.args.f.now c.requires.frame e same c.args.mode s
    c.requires.branch c.args.out.now c.put_branch.new.out in
    record {
      runs = on_ok_weaker c.put_branch.result (λ x. let h = promised x in h.runs) c.put_branch.ensures.emitted;
      means = frame-branch_means c.args.f.now c.requires.frame c.args.mode s c.requires.branch;
      passes = on_ok_weaker c.put_branch.result (λ x. let h = promised x in h.passes) c.put_branch.ensures.emitted;
      walked = on_ok_weaker c.put_branch.result (λ x. let h = promised x in h.walked) c.put_branch.ensures.emitted;
      region = on_ok_weaker c.put_branch.result (λ x. let h = promised x in h.region) c.put_branch.ensures.emitted;
      stores = on_ok_weaker c.put_branch.result (λ x. let h = promised x in h.stores) c.put_branch.ensures.emitted;
      words = c.put_branch.ensures.words;
      extends =
          on_ok_both c.put_branch.result c.put_branch.ensures.emitted c.put_branch.ensures.words
          (call_extends c.args.f.now c.requires.frame e same c.args.mode s c.requires.branch
          c.args.out.now c.put_branch.new.out c.requires.room);
      grows = c.put_branch.ensures.grows;
    }
