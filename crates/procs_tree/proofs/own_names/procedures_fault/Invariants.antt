use Rattle.std.proofs.Common.{◌≡◌, drop, map}
use Rattle.gr_base.specs.Prelude.{found_under}
use Rattle.procs_tree.specs.Prelude.{none_named, procedures_fault, procedure_of}
use Rattle.procs_tree.proofs.own_names.procedures_fault.Given as goal

abbrev pub invariant-loop-i : goal.invariant-loop-i
invariant-loop-i l =
    procedures_fault (found_under l.known) l.i (map procedure_of (drop l.i l.procs))
    ≡ procedures_fault none_named 0 (map procedure_of l.procs)
