use Rattle.std.proofs.Common.{◌≡◌, ◌+◌, drop}
use Rattle.src_tree.specs.Prelude.{variable_number}
use Rattle.run_tools.proofs.variables.number_of.Given as goal

abbrev pub invariant-loop-number : goal.invariant-loop-number
invariant-loop-number l = l.number + variable_number (drop l.number l.decls) l.name ≡ variable_number l.decls l.name
