use Rattle.std.proofs.Common.{◌≡◌, ◌++◌, drop}
use Rattle.procs_tree.specs.Prelude.{trees_of}
use Rattle.procs_pruning.specs.Prelude.{trees_seen}
use Rattle.procs_pruning.proofs.live.each.Given as goal

abbrev pub invariant-loop-argument : goal.invariant-loop-argument
invariant-loop-argument l = trees_seen l.all.items ++ trees_of (drop l.argument-index l.arguments) ≡ trees_of l.arguments
