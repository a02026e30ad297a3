use Rattle.std.proofs.Common.{◌≡◌, ◌++◌, drop}
use Rattle.source_folding.proofs.programs.all_copied.Given as goal

abbrev pub invariant-loop-decl : goal.invariant-loop-decl
invariant-loop-decl l = l.all.items ++ drop l.decl-index l.decls ≡ l.decls
