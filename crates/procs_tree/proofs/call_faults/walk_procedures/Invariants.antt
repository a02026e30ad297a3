use Rattle.std.proofs.Common.{◌≡◌, [], drop, map, reverse, take}
use Rattle.procs_tree.specs.Prelude.{procedures_walked, procedure_of}
use Rattle.procs_tree.proofs.call_faults.walk_procedures.Given as goal

abbrev pub invariant-loop-i : goal.invariant-loop-i
invariant-loop-i l =
    procedures_walked (reverse (take l.i (map procedure_of l.procs))) l.n (map procedure_of (drop l.i l.procs))
    ≡ procedures_walked [] 0 (map procedure_of l.procs)
