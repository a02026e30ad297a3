use Rattle.std.proofs.Common.{◌≡◌, map, take}
use Rattle.bank_alloc.specs.Prelude.{class_in}
use Rattle.bank_alloc.proofs.classes.classes_in.Given as goal

abbrev pub invariant-loop-decl : goal.invariant-loop-decl
invariant-loop-decl l = l.classes.items ≡ map (class_in l.indexed) (take l.decl-index l.decls)
