use Rattle.std.proofs.Common.{◌≡◌, ◌++◌, take, flat_map}
use Rattle.object_file.specs.Prelude.{symbol}
use Rattle.object_file.proofs.encoding.put_symbols.Given as goal

abbrev pub invariant-loop-symbol : goal.invariant-loop-symbol
invariant-loop-symbol l = l.out.items ≡ l.initial.out.items ++ flat_map symbol (take l.symbol-index l.symbols)
