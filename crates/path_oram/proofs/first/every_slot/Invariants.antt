use Rattle.std.proofs.Common.{◌≡◌, map}
use Rattle.std.specs.List.{range_with_len}
use Rattle.path_oram.specs.Prelude.{slot_of}
use Rattle.path_oram.proofs.first.every_slot.Given as goal

abbrev pub invariant-loop-block : goal.invariant-loop-block
invariant-loop-block l = l.slots.items ≡ map (slot_of l.leaves) (range_with_len 0 l.block)
