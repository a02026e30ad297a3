use Rattle.std.proofs.Common.{◌≡◌, drop}
use Rattle.bank_alloc.specs.Prelude.{first_full}
use Rattle.bank_alloc.proofs.allocation.first_full.Given as goal

abbrev pub invariant-loop-bank : goal.invariant-loop-bank
invariant-loop-bank l = first_full l.bank (drop l.bank l.blocks) ≡ first_full 0 l.blocks
