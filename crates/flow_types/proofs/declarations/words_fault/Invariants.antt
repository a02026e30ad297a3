use Rattle.std.proofs.Common.{◌≡◌, ◌≤◌, drop}
use Rattle.src_tree.specs.Prelude.{words_fault}
use Rattle.flow_types.proofs.declarations.words_fault.Given as goal

abbrev pub invariant-loop-i : goal.invariant-loop-i
invariant-loop-i l = (words_fault l.i l.total (drop l.i l.decls) ≡ words_fault 0 0 l.decls) × (l.total ≤ 4194304)
