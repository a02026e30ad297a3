use Rattle.std.proofs.Common.{◌≡◌, Some, map, take}
use Rattle.procs_pruning.specs.Prelude.{arguments_under, handed, trees_seen}
use Rattle.procs_pruning.proofs.handing.all_handed.Given as goal

abbrev pub invariant-loop-e : goal.invariant-loop-e
invariant-loop-e l =
    map Some (trees_seen l.all.items) ≡ map (handed (arguments_under l.given)) (trees_seen (take l.e-index l.es))
