use Rattle.std.proofs.Common.{◌≡◌, ◌-◌, drop, length, map}
use Rattle.procs_tree.specs.Prelude.{parameter_of}
use Rattle.procs_pruning.specs.Prelude.{argument_of, arguments_under, trees_seen}
use Rattle.procs_pruning.proofs.handing.by_name.Given as goal

abbrev pub invariant-loop-i : goal.invariant-loop-i
invariant-loop-i l =
    arguments_under l.given
    ≡ argument_of (map parameter_of (drop (length l.params - l.i) l.params))
    (trees_seen (drop (length l.params - l.i) l.arguments))
