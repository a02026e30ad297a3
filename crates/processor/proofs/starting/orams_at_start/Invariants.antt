use Rattle.std.proofs.Common.{◌≡◌, ◌-◌, map}
use Rattle.std.specs.List.{range_with_len}
use Rattle.processor.specs.Prelude.{starting_bank}
use Rattle.processor.proofs.starting.orams_at_start.Given as goal

abbrev pub invariant-loop-bank : goal.invariant-loop-bank
invariant-loop-bank l = l.orams.items ≡ map (starting_bank l.accepted l.inputs) (range_with_len 2 (l.bank - 2))
