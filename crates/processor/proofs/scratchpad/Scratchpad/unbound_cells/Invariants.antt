use Rattle.std.proofs.Common.{◌≡◌, length, map, replicate}
use Rattle.lt_isa.specs.Prelude.{Unbound}
use Rattle.processor.specs.Prelude.{cell_slot, HaveRoom}
use Rattle.processor.proofs.scratchpad.Scratchpad.unbound_cells.Given as goal

abbrev pub invariant-loop : goal.invariant-loop
invariant-loop l = record {
  slots : map cell_slot l.cells.items ≡ replicate l.counter Unbound;
  count : length l.cells.items ≡ l.counter;
  room : HaveRoom l.fn.words l.cells.items;
}
