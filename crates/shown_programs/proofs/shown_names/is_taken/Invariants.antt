use Rattle.std.proofs.Common.{◌≢◌, All}
use Rattle.std.specs.List.{AllWithin}
use Rattle.src_tree.specs.declared.trees.Decl.{Decl}
use Rattle.shown_programs.proofs.shown_names.is_taken.Given as goal

abbrev pub invariant-loop-decl : goal.invariant-loop-decl
invariant-loop-decl l = AllWithin (λ (decl : Decl). decl.name ≢ l.name) l.declared 0 l.decl-index

abbrev pub invariant-loop-other : goal.invariant-loop-other
invariant-loop-other l =
    All (λ (decl : Decl). decl.name ≢ l.name) l.declared × AllWithin (λ other. other ≢ l.name) l.names 0 l.other-index
