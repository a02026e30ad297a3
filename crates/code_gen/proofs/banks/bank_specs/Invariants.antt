use Rattle.std.proofs.Common.{◌≡◌, ◌++◌, drop}
use Rattle.code_gen.specs.Prelude.{banks_from}
use Rattle.code_gen.proofs.banks.bank_specs.Given as goal

abbrev pub invariant-loop-bank : goal.invariant-loop-bank
invariant-loop-bank l = l.banks.items ++ banks_from l.l l.bank (drop l.bank l.blocks) ≡ banks_from l.l 0 l.blocks
