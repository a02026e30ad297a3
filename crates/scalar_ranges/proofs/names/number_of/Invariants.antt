use Rattle.std.proofs.Common.{◌≡◌, ◌+◌, drop}
use Rattle.src_tree.specs.Prelude.{variable_number}
use Rattle.scalar_ranges.proofs.names.number_of.Given as goal

abbrev pub invariant-loop-i : goal.invariant-loop-i
invariant-loop-i l = l.i + variable_number (drop l.i l.decls) l.name ≡ variable_number l.decls l.name
