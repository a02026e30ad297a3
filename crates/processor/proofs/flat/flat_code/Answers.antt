use Rattle.std.proofs.Common.{[], ◌∷◌, length, get_or, ap, subst, sym, arith, length-append}
use Rattle.lt_isa.specs.declared.instructions.Instr.TheVariants.{Nop}
use Rattle.processor.specs.Prelude.{AreFlatForms, IsFlatForm}
use Rattle.processor.proofs.FlatCode.{flats-more}
use Rattle.processor.proofs.flat.flat_code.Goals as goal

pub loop-instruction-preserved : goal.loop-instruction-preserved
loop-instruction-preserved c =
    let code = c.args.object.now.code in
    let before = c.loop-instruction.flats.items in
    let stands : IsFlatForm c.flat_of.result (get_or code (length before) Nop) =
    subst (λ k. IsFlatForm c.flat_of.result (get_or code k Nop)) (sym c.loop-instruction.invariant.count)
    (subst (λ list. IsFlatForm c.flat_of.result (get_or list c.loop-instruction.instruction-index Nop))
    c.code-code.ensures.value c.flat_of.ensures) in
    record {
      count = omega (
        arith,
        ap length c.in_ok-push.ensures.items,
        length-append before (c.flat_of.result ∷ []),
        c.loop-instruction.invariant.count,
      );
      each = subst (λ list. AreFlatForms list code) (sym c.in_ok-push.ensures.items)
          (flats-more before code c.flat_of.result c.loop-instruction.invariant.each stands);
    }
