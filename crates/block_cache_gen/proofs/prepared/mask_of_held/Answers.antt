use Rattle.std.proofs.Common.{◌≡◌, true, false, sym, ap, ◌∙◌}
use Rattle.block_cache_gen.specs.Prelude.{label_by, is_public}
use Rattle.held_registers.specs.Prelude.{held_at}
use Rattle.block_cache_gen.proofs.BaseMask.{mask-begins, mask-more}
use Rattle.block_cache_gen.proofs.prepared.mask_of_held.Goals.{then-is_public, else-is_public}
use Rattle.block_cache_gen.proofs.prepared.mask_of_held.Goals as goal

pub loop-register-init : goal.loop-register-init
loop-register-init c = mask-begins c.args.decls.now c.args.held.now

pub loop-register-preserved : goal.loop-register-preserved
loop-register-preserved c =
    let is : c.is_public.result ≡ is_public (label_by c.args.decls.now (held_at c.args.held.now c.loop-register.register)) =
    c.is_public.ensures ∙ ap is_public c.label_of_register.ensures in
    elim c.if-is_public.branch [
      | then-is_public w ↦
          w.mask-is ∙ w.unmarked-mask.ensures
          ∙ mask-more c.args.decls.now c.args.held.now c.loop-register.register c.loop-register.mask true
          (sym w.if-is_public.true ∙ is) c.loop-register.invariant
      | else-is_public w ↦
          w.mask-is
          ∙ mask-more c.args.decls.now c.args.held.now c.loop-register.register c.loop-register.mask false
          (sym w.if-is_public.false ∙ is) c.loop-register.invariant
    ]
