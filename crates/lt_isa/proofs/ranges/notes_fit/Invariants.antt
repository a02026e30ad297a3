use Rattle.lt_isa.specs.Prelude.{NoteFits}
use Rattle.gr_base.proofs.EachAfter.{EachBelow}
use Rattle.lt_isa.proofs.ranges.notes_fit.Given as goal

abbrev pub invariant-loop-i : goal.invariant-loop-i
invariant-loop-i l = EachBelow (NoteFits l.banks) l.notes l.i
