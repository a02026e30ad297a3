use Rattle.std.proofs.Common.{◌≡◌, drop}
use Rattle.gr_base.specs.Prelude.{found_under}
use Rattle.procs_tree.specs.Prelude.{none_named, numbered_all, names_seen}
use Rattle.procs_tree.proofs.own_names.gather.Given as goal

abbrev pub invariant-loop-i : goal.invariant-loop-i
invariant-loop-i l =
    numbered_all (found_under l.known) l.i (names_seen (drop l.i l.names)) ≡ numbered_all none_named 0 (names_seen l.names)
