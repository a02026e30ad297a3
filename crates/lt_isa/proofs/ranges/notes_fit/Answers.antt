use Rattle.std.proofs.Common.{[], arith, rules}
use Rattle.lt_isa.specs.Prelude.{NoteFits}
use Rattle.gr_base.proofs.EachAfter.{EachAfter-at, EachAfter-from_below}
use Rattle.lt_isa.proofs.ranges.notes_fit.Goals as goal

pub returns-then-not-note_fits : goal.returns-then-not-note_fits
returns-then-not-note_fits c = (
  search rules,
  λ each. c.if-not-note_fits.ensures.1
      (EachAfter-at (NoteFits c.args.banks) [] c.args.notes.now each c.loop-i.i _ c.loop-i-test.true),
)

pub returns : goal.returns
returns c = (
  λ yes. EachAfter-from_below (NoteFits c.args.banks) c.args.notes.now
      (λ k d within. c.loop-i.invariant k d (omega arith)),
  search rules,
)
