use Rattle.std.proofs.Common.{◌≡◌, ◌+◌, ◌-◌, ◌^◌, ◌≤◌, drop, map}
use Rattle.src_tree.specs.Prelude.{shown_number}
use Rattle.procs_tree.specs.Prelude.{scalars, parameter_of}
use Rattle.procs_tree.proofs.sizes.scalars.Given as goal

abbrev pub invariant-loop-param : goal.invariant-loop-param
invariant-loop-param l =
    (shown_number (l.count + scalars (map parameter_of (drop l.param-index l.params)))
    ≡ shown_number (scalars (map parameter_of l.params))) × (l.count ≤ 2 ^ 64 - 1)
