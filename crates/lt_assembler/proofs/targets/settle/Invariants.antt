use Rattle.std.proofs.Common.{◌≡◌, map, drop}
use Rattle.lt_assembler.specs.Prelude.{settled, by_name, seen_use}
use Rattle.lt_assembler.proofs.targets.settle.Given as goal

abbrev pub invariant-loop-found : goal.invariant-loop-found
invariant-loop-found l =
    settled (by_name l.labels.entries) (map seen_use (drop l.found-index l.uses)) l.code.items
    ≡ settled (by_name l.labels.entries) (map seen_use l.uses) l.initial.code.items
