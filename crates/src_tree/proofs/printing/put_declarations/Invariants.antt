use Rattle.std.proofs.Common.{◌≡◌, ◌++◌, drop}
use Rattle.src_tree.specs.Prelude.{decls_text}
use Rattle.src_tree.proofs.printing.put_declarations.Given as goal

abbrev pub invariant-loop-decl : goal.invariant-loop-decl
invariant-loop-decl l = l.out.items ++ decls_text (drop l.decl-index l.decls) ≡ l.fn.out.items ++ decls_text l.decls
