use Rattle.std.proofs.Common.{◌≡◌, ◌++◌, drop}
use Rattle.std.specs.List.{AllByRecursion}
use Rattle.src_tree.specs.Prelude.{LengthFits}
use Rattle.flow_types.specs.Prelude.{declared_wants}
use Rattle.flow_types.proofs.wants.declared_wants.Given as goal

abbrev pub invariant-loop-decl : goal.invariant-loop-decl
invariant-loop-decl l =
    (l.wants.items ++ declared_wants (drop l.decl-index l.decls) ≡ declared_wants l.decls) × AllByRecursion
    (λ d. LengthFits d.length) (drop l.decl-index l.decls)
