use Rattle.std.proofs.Common.{◌≡◌, drop}
use Rattle.block_cache_gen.specs.Prelude.{slot_from}
use Rattle.block_cache_gen.proofs.variables.slot_from.Given as goal

abbrev pub invariant-loop-slot : goal.invariant-loop-slot
invariant-loop-slot l = slot_from l.slot (drop l.slot l.pins) l.bank l.block ≡ slot_from 0 l.pins l.bank l.block
