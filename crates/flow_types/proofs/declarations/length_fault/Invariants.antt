use Rattle.std.proofs.Common.{◌≡◌, drop}
use Rattle.src_tree.specs.Prelude.{length_fault}
use Rattle.flow_types.proofs.declarations.length_fault.Given as goal

abbrev pub invariant-loop-i : goal.invariant-loop-i
invariant-loop-i l = length_fault l.i (drop l.i l.decls) ≡ length_fault 0 l.decls
