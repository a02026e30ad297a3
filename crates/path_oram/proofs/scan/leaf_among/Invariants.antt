use Rattle.std.proofs.Common.{ℕ, ◌≢◌, ◌<◌, get_or}
use Rattle.path_oram.specs.Prelude.{blocks_in}
use Rattle.path_oram.proofs.scan.leaf_among.Given as goal

-- none of the slots before `place` holds the block
abbrev pub invariant-loop-place : goal.invariant-loop-place
invariant-loop-place l =
    (k : ℕ) (d : ℕ) → k < l.place → get_or (blocks_in l.slots) k d ≢ l.block
