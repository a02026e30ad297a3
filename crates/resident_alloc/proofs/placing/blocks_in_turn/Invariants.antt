use Rattle.std.proofs.Common.{◌≡◌, ◌+◌, ◌*◌, ◌≤◌, drop}
use Rattle.src_tree.specs.Prelude.{max_length}
use Rattle.resident_alloc.specs.Prelude.{blocks_in_turn}
use Rattle.resident_alloc.proofs.placing.blocks_in_turn.Given as goal

abbrev pub invariant-loop-number : goal.invariant-loop-number
invariant-loop-number l =
    (l.blocks + blocks_in_turn l.size l.turn l.number (drop l.number l.vs) ≡ blocks_in_turn l.size l.turn 0 l.vs)
    × (l.blocks ≤ l.number * (max_length + 511))
