use Rattle.std.proofs.Common.{subst, sym, ◌∙◌}
use Rattle.src_tree.specs.Prelude.{context_of, source_of, statement_of, TypedStatement}
use Rattle.block_cache_gen.specs.Prelude.{Setting}
use Rattle.gr_word.specs.declared.variables.Label.TheVariants.{Public}
use Rattle.std.proofs.lemmas.Result.{on_ok_weaker}
use Rattle.block_cache_gen.proofs.AssignmentsMean.{assignment_means}
use Rattle.block_cache_gen.proofs.FrameClauses.{frame-set_promises}
use Rattle.block_cache_gen.proofs.FrameCalls.{frame_set, on_ok_both}
use Rattle.src_tree.proofs.ProgramStatements.{statement_typed, statement_low}
use Rattle.block_cache_gen.proofs.calls.emit_set.Goals as goal

pub put_set-requires-clause-typed : goal.put_set-requires-clause-typed
put_set-requires-clause-typed c =
    let s = statement_of c.args.s.now in
    let P : Setting → Type 0 = λ f. TypedStatement (context_of f.decls) c.requires.stands.code s in (
      c.requires.stands.code,
      subst P (sym (c.new-emitter.ensures ∙ c.in_ok-prepared.ensures {u = tt} ∙ c.plain-frame.ensures.setting))
          (statement_typed (source_of c.args.f.now.program.now) c.requires.stands.code s c.requires.frame.typed
          c.requires.stands.stands),
    )

pub put_set-requires-clause-low : goal.put_set-requires-clause-low
put_set-requires-clause-low c =
    statement_low (source_of c.args.f.now.program.now) c.requires.stands.code (statement_of c.args.s.now)
    c.requires.frame.within c.requires.stands.stands

pub returns : goal.returns
returns c =
    let s = statement_of c.args.s.now in
    let same = c.new-emitter.ensures ∙ c.in_ok-prepared.ensures {u = tt} ∙ c.plain-frame.ensures.setting in
    let promised = frame-set_promises c.args.f.now c.new-emitter.result c.args.mode s c.args.out.now
    c.put_set.new.out c.requires.frame same c.requires.assignment c.requires.stands in
    record {
      runs = on_ok_weaker c.put_set.result (λ x. let h = promised x in h.runs) c.put_set.ensures.emitted;
      means = assignment_means c.args.f.now.program.now.decls.items s c.requires.assignment;
      passes = on_ok_weaker c.put_set.result (λ x. let h = promised x in h.passes) c.put_set.ensures.emitted;
      walked = on_ok_weaker c.put_set.result (λ x. let h = promised x in h.walked) c.put_set.ensures.emitted;
      stores = on_ok_weaker c.put_set.result (λ x. let h = promised x in h.stores) c.put_set.ensures.emitted;
      writes = on_ok_weaker c.put_set.result (λ x. let h = promised x in h.writes) c.put_set.ensures.emitted;
      instructions = on_ok_weaker c.put_set.result (λ x. let h = promised x in h.instructions)
          c.put_set.ensures.emitted;
      twin = on_ok_weaker c.put_set.result (λ x. let h = promised x in h.twin) c.put_set.ensures.emitted;
      words = c.put_set.ensures.words;
      extends =
          on_ok_both c.put_set.result c.put_set.ensures.emitted c.put_set.ensures.words
          (frame_set c.args.f.now c.new-emitter.result c.args.mode Public s c.args.out.now c.put_set.new.out
          c.requires.frame same c.requires.assignment c.requires.stands c.requires.room);
      grows = c.put_set.ensures.grows;
    }
