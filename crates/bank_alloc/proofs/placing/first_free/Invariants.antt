use Rattle.std.proofs.Common.{◌≡◌, ◌+◌, ◌*◌, ◌≤◌, take}
use Rattle.src_tree.specs.Prelude.{max_length}
use Rattle.bank_alloc.specs.Prelude.{first_free_block}
use Rattle.bank_alloc.proofs.placing.first_free.Given as goal

abbrev pub invariant-loop-place : goal.invariant-loop-place
invariant-loop-place l =
    (l.free ≡ first_free_block l.size l.bank (take l.place-index l.places))
    × (l.free ≤ 1 + l.place-index * (max_length + 511))
