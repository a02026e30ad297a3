use Rattle.std.proofs.Common.{◌<◌, false, [], rules, sym, subst, arith}
use Rattle.held_registers.proofs.Sound.{nothing-sound}
use Rattle.src_tree.specs.Prelude.{IsWithinLimits, source_of, IsTyped}
use Rattle.scratch_alloc.specs.Prelude.{standard_plan}
use Rattle.scratch_alloc.proofs.StandardPlan.{standard_sound_at}
use Rattle.code_gen.proofs.Assembled.{CompilePromises, made-promises}
use Rattle.code_gen.proofs.compiling.compile.Goals as goal

pub returns-in-Ok-compiled : goal.returns-in-Ok-compiled
returns-in-Ok-compiled c =
    let p = c.program-program in
    let w = c.args.p.now.block_log in
    let limits = subst (λ q. IsWithinLimits (source_of q)) (sym p.ensures.program) p.ensures.within in
    let h = subst (λ q. CompilePromises (source_of q) (standard_plan (source_of q) w) c.args.p.now false [] c.args.l.now
    c.in-Ok-compiled.object)
    p.ensures.program
    (made-promises (source_of p.result.now) (standard_plan (source_of p.result.now) w) c.args.p.now false [] c.args.l.now
    (subst (λ q. IsTyped (source_of q)) (sym p.ensures.program) p.ensures.typed)
    limits
    (standard_sound_at (source_of p.result.now) w limits c.in-Ok.ensures.fits) (nothing-sound (source_of p.result.now).decls)
    (λ (some : 0 < 0). absurd (omega arith)) c.requires.profile c.in-Ok-compiled.object c.in-Ok-compiled.ensures) in
    record {
      accepted = h.accepted;
      implements = h.implements;
      laid_out = search rules;
      machine = h.machine;
      size = h.size;
      stores = h.stores;
      in_range = search rules;
      fits = search rules;
      refused = search rules;
    }
