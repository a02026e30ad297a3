use Rattle.std.proofs.Common.{◌≡◌, ◌++◌, map, flat_map, take}
use Rattle.lt_assembler.specs.Prelude.{words_for_symbol, line}
use Rattle.lt_assembler.proofs.disassembly.put_symbols.Given as goal

abbrev pub invariant-loop-symbol : goal.invariant-loop-symbol
invariant-loop-symbol l =
    l.out.items ≡ l.initial.out.items ++ flat_map line (map words_for_symbol (take l.symbol-index l.symbols))
