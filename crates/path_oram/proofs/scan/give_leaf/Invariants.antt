use Rattle.std.proofs.Common.{◌≡◌, vec_capacity}
use Rattle.path_oram.specs.Prelude.{with_leaf}
use Rattle.path_oram.proofs.Slots.{changed_before}
use Rattle.path_oram.proofs.scan.give_leaf.Given as goal

-- the slots before `place` have their new leaves
abbrev pub invariant-loop-place : goal.invariant-loop-place
invariant-loop-place l = record {
  slots : l.stash.items ≡ changed_before (with_leaf l.block l.leaf) l.initial.stash.items l.place;
  capacity : vec_capacity l.stash ≡ vec_capacity l.initial.stash;
}
