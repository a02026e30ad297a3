use Rattle.std.proofs.Common.{◌≡◌, map}
use Rattle.std.specs.List.{range_with_len}
use Rattle.resident_alloc.specs.Prelude.{resident_blocks}
use Rattle.resident_alloc.proofs.planning.blocks_of_banks.Given as goal

abbrev pub invariant-loop-bank : goal.invariant-loop-bank
invariant-loop-bank l = l.blocks.items ≡ map (resident_blocks l.size l.all) (range_with_len 0 l.bank)
