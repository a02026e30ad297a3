use Rattle.std.proofs.Common.{◌≡◌, ◌+◌, [], ◌∷◌, ℕ, length, ap, sym, subst, arith, length-append}
use Rattle.lt_isa.proofs.Starts.{length-start_bank}
use Rattle.call_steps.specs.Prelude.{BeginFrom}
use Rattle.call_steps.proofs.Beginnings.{begin-more, oblivious-most}
use Rattle.call_steps.proofs.oblivious.orams_at_start.Goals as goal

pub over_blocks-requires : goal.over_blocks-requires
over_blocks-requires g c =
    omega (
      arith,
      ap (λ b. length b.contents) c.in_ok-blocks.ensures,
      length-start_bank c.args.accepted.now c.args.inputs.now c.loop-bank.bank,
      oblivious-most c.args.accepted.now c.requires.in_range c.loop-bank.bank (omega (arith, c.loop-bank.auto.bank))
          (omega (arith, c.loop-bank.auto.bank, c.requires.all)),
    )

pub loop-bank-preserved : goal.loop-bank-preserved
loop-bank-preserved g c =
    let Begins = g.B.Seeded.begins c.args.accepted.now c.args.inputs.now c.args.seed c.args.core in
    let before = c.loop-bank.orams.items in
    let made = c.in_ok-over_blocks.field-0 in
    let number : c.loop-bank.bank ≡ 2 + length before =
    omega (arith, c.loop-bank.invariant.count, c.loop-bank.auto.bank) in
    let begun : Begins c.loop-bank.bank made =
    c.in_ok-over_blocks.ensures c.args.accepted.now c.args.inputs.now c.args.seed c.args.core c.loop-bank.bank
    c.source_for.ensures c.in_ok-blocks.ensures in
    record {
      count = omega (
        arith,
        ap length c.in_ok-push.ensures.items,
        length-append before (made ∷ []),
        c.loop-bank.invariant.count,
        c.loop-bank.auto.bank,
      );
      begun = subst (BeginFrom Begins 2) (sym c.in_ok-push.ensures.items)
          (begin-more Begins 2 before made c.loop-bank.invariant.begun
          (subst (λ (n : ℕ). Begins n made) number begun));
    }
