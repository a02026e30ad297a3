use Rattle.std.proofs.Common.{◌+◌, ◌≤◌}
use Rattle.path_oram.specs.Prelude.{NoneFrom, tree_blocks}
use Rattle.path_oram.proofs.settling.room_for.Given as goal

-- no level from `above` on has room and allows the block
abbrev pub invariant-loop-above : goal.invariant-loop-above
invariant-loop-above l = record {
  within : l.above ≤ l.height + 1;
  none : NoneFrom l.height l.own l.leaf (tree_blocks l.tree) l.above;
}

abbrev pub decreases-loop-above : goal.decreases-loop-above
decreases-loop-above l = l.above
