use Rattle.std.proofs.Common.{◌≡◌, ◌++◌, map, flat_map, take}
use Rattle.lt_assembler.specs.Prelude.{words_for_bank, line}
use Rattle.lt_assembler.proofs.disassembly.put_banks.Given as goal

abbrev pub invariant-loop-bank : goal.invariant-loop-bank
invariant-loop-bank l = l.out.items ≡ l.initial.out.items
    ++ flat_map line (map words_for_bank (take l.bank-index l.banks))
