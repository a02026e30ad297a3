use Rattle.std.proofs.Common.{map}
use Rattle.gr_base.specs.Prelude.{found_under}
use Rattle.procs_tree.specs.Prelude.{procedure_of}
use Rattle.procs_tree.proofs.NumbersAdded.{AreSoFar}
use Rattle.procs_tree.proofs.finding.numbers_of.Given as goal

abbrev pub invariant-loop-i : goal.invariant-loop-i
invariant-loop-i l = AreSoFar (map procedure_of l.procs) l.i (found_under l.numbers)
