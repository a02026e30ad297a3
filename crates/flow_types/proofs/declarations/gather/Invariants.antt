use Rattle.std.proofs.Common.{◌≡◌, drop}
use Rattle.gr_base.specs.Prelude.{found_under}
use Rattle.flow_types.specs.Prelude.{nothing_known, names_gathered}
use Rattle.flow_types.proofs.declarations.gather.Given as goal

abbrev pub invariant-loop-i : goal.invariant-loop-i
invariant-loop-i l = names_gathered (found_under l.names) l.i (drop l.i l.decls)
    ≡ names_gathered nothing_known 0 l.decls
