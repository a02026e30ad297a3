use Rattle.std.proofs.Common.{◌≡◌, ◌+◌, take, refl, arith, rules}
use Rattle.std.proofs.lemmas.Grind.{common_steps}
use Rattle.lt_isa.specs.Prelude.{SymbolFits, total_length}
use Rattle.gr_base.proofs.EachAfter.{EachAfter-read, EachBelow-more, EachAfter-from_below}
use Rattle.lt_isa.proofs.ranges.symbols_fit.Goals as goal

pub returns-then-not-symbol_fits : goal.returns-then-not-symbol_fits
returns-then-not-symbol_fits c = (
  search rules,
  λ each. c.if-not-symbol_fits.ensures.1 (EachAfter-read (SymbolFits c.args.block_words c.args.banks.now)
      c.args.symbols.now c.loop-i.i _ c.index-symbols-i.is c.loop-i-test.true each),
)

pub loop-i-preserved : goal.loop-i-preserved
loop-i-preserved c =
    let fits = c.if-not-symbol_fits.ensures.0 refl in
    let total : c.loop-i.total + c.index-symbols-i.result.length
    ≡ total_length (take (c.loop-i.i + 1) c.args.symbols.now) = grind (arith, common_steps) in (
      EachBelow-more (SymbolFits c.args.block_words c.args.banks.now) c.args.symbols.now c.loop-i.i _ c.loop-i-test.true
          c.index-symbols-i.is c.loop-i.invariant.0 fits,
      total,
      omega (arith, fits.total),
    )

pub returns : goal.returns
returns c = (
  λ yes. EachAfter-from_below (SymbolFits c.args.block_words c.args.banks.now) c.args.symbols.now
      (λ k d within. c.loop-i.invariant.0 k d (omega arith)),
  search rules,
)
