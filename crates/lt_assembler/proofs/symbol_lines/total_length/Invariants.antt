use Rattle.std.proofs.Common.{◌≡◌, ◌*◌, ◌≤◌, take}
use Rattle.lt_isa.specs.Prelude.{total_length}
use Rattle.lt_assembler.proofs.symbol_lines.total_length.Given as goal

abbrev pub invariant-loop-symbol : goal.invariant-loop-symbol
invariant-loop-symbol l =
    (l.total ≡ total_length (take l.symbol-index l.symbols)) × (l.total ≤ l.symbol-index * 4294967296)
