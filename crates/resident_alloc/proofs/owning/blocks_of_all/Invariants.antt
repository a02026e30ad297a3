use Rattle.std.proofs.Common.{◌≡◌, ◌+◌, ◌*◌, ◌≤◌, take}
use Rattle.src_tree.specs.Prelude.{max_length}
use Rattle.resident_alloc.specs.Prelude.{blocks_of_all}
use Rattle.resident_alloc.proofs.owning.blocks_of_all.Given as goal

abbrev pub invariant-loop-v : goal.invariant-loop-v
invariant-loop-v l =
    (l.blocks ≡ blocks_of_all l.size (take l.v-index l.vs)) × (l.blocks ≤ l.v-index * (max_length + 511))
