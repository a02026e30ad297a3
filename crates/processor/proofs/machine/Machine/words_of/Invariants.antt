use Rattle.std.proofs.Common.{◌≡◌, map}
use Rattle.std.specs.List.{range_with_len}
use Rattle.lt_isa.specs.Prelude.{symbol_word}
use Rattle.processor.proofs.machine.Machine.words_of.Given as goal

abbrev pub invariant-loop-index : goal.invariant-loop-index
invariant-loop-index g l =
    l.words.items ≡ map (symbol_word l.self.object l.self.state l.symbol) (range_with_len 0 l.index)
