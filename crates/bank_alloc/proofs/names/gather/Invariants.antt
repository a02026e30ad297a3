use Rattle.std.proofs.Common.{◌≡◌, take}
use Rattle.src_tree.specs.Prelude.{context_of}
use Rattle.gr_base.specs.Prelude.{found_under}
use Rattle.bank_alloc.proofs.names.gather.Given as goal

abbrev pub invariant-loop-decl : goal.invariant-loop-decl
invariant-loop-decl l = found_under l.names ≡ context_of (take l.decl-index l.decls)
