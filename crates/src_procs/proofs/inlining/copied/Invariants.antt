use Rattle.std.proofs.Common.{◌≡◌, ◌++◌, drop}
use Rattle.src_procs.proofs.inlining.copied.Given as goal

abbrev pub invariant-loop-decl : goal.invariant-loop-decl
invariant-loop-decl l = l.all.items ++ drop l.decl-index l.decls ≡ l.decls
