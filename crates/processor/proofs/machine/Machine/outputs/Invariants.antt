use Rattle.std.proofs.Common.{◌≡◌, map, take}
use Rattle.lt_isa.specs.Prelude.{symbol_words}
use Rattle.processor.proofs.machine.Machine.outputs.Given as goal

abbrev pub invariant-loop-symbol : goal.invariant-loop-symbol
invariant-loop-symbol g l = l.lists ≡ map (symbol_words l.self.object l.self.state) (take l.symbol-index l.symbol-items)
