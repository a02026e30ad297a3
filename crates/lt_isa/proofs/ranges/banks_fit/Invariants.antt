use Rattle.lt_isa.specs.Prelude.{BankFits}
use Rattle.gr_base.proofs.EachAfter.{EachBelow}
use Rattle.lt_isa.proofs.ranges.banks_fit.Given as goal

abbrev pub invariant-loop-i : goal.invariant-loop-i
invariant-loop-i l = EachBelow BankFits l.banks l.i
