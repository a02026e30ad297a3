use Rattle.std.proofs.Common.{[], arith, rules}
use Rattle.lt_isa.specs.Prelude.{BankFits}
use Rattle.gr_base.proofs.EachAfter.{EachAfter-at, EachAfter-from_below}
use Rattle.lt_isa.proofs.ranges.banks_fit.Goals as goal

pub returns-then-not-bank_fits : goal.returns-then-not-bank_fits
returns-then-not-bank_fits c = (
  search rules,
  λ each.
      c.if-not-bank_fits.ensures.1 (EachAfter-at BankFits [] c.args.banks.now each c.loop-i.i _ c.loop-i-test.true),
)

pub returns : goal.returns
returns c = (
  λ yes. EachAfter-from_below BankFits c.args.banks.now (λ k d within. c.loop-i.invariant k d (omega arith)),
  search rules,
)
