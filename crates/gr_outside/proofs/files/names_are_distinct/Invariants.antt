use Rattle.std.proofs.Common.{◌≡◌, drop}
use Rattle.gr_outside.specs.Prelude.{are_distinct}
use Rattle.gr_outside.proofs.files.names_are_distinct.Given as goal

abbrev pub invariant-loop-i : goal.invariant-loop-i
invariant-loop-i l = are_distinct (drop l.i l.files) ≡ are_distinct l.files
