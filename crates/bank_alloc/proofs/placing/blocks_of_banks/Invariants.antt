use Rattle.std.proofs.Common.{◌≡◌, map}
use Rattle.std.specs.List.{range_with_len}
use Rattle.bank_alloc.specs.Prelude.{first_free_block}
use Rattle.bank_alloc.proofs.placing.blocks_of_banks.Given as goal

abbrev pub invariant-loop-bank : goal.invariant-loop-bank
invariant-loop-bank l = l.blocks.items ≡ map (λ bank. first_free_block l.size bank l.places) (range_with_len 0 l.bank)
