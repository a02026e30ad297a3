use Rattle.std.proofs.Common.{◌≡◌, [], ◌++◌, length, drop}
use Rattle.bank_alloc.specs.Prelude.{class_in, AreFew, places_behind}
use Rattle.bank_alloc.proofs.placing.places_in.Given as goal

abbrev pub invariant-loop-decl : goal.invariant-loop-decl
invariant-loop-decl l =
    (l.places.items ++ places_behind (class_in l.indexed) l.size l.places.items (drop l.decl-index l.decls)
    ≡ places_behind (class_in l.indexed) l.size [] l.decls)
    × (length l.places.items ≡ l.decl-index)
    × AreFew l.places.items
