use Rattle.src_tree.specs.Prelude.{DeclaredOnce}
use Rattle.shown_programs.proofs.ShownNames.{ShownBelow}
use Rattle.shown_programs.proofs.shown_names.shown_names.Given as goal

abbrev pub invariant-loop-decl : goal.invariant-loop-decl
invariant-loop-decl l = DeclaredOnce l.decls → ShownBelow l.decls l.decl-index l.names.items
