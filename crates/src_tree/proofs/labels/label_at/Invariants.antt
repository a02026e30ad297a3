use Rattle.std.proofs.Common.{◌≡◌, drop}
use Rattle.src_tree.specs.Prelude.{context_of, label_at}
use Rattle.src_tree.proofs.labels.label_at.Given as goal

abbrev pub invariant-loop-decl : goal.invariant-loop-decl
invariant-loop-decl l = label_at (context_of (drop l.decl-index l.decls)) l.name ≡ label_at (context_of l.decls) l.name
