use Rattle.std.proofs.Common.{◌≡◌, [], ◌-◌}
use Rattle.lt_isa.specs.Prelude.{total_length}
use Rattle.object_file.specs.Prelude.{AreNamesOf, items_at, symbol_at}
use Rattle.object_file.proofs.symbols.symbol_list.Given as goal

abbrev pub invariant-loop : goal.invariant-loop
invariant-loop l =
    (l.room ≡ 4194304 - total_length l.symbols.items)
    × (items_at (symbol_at l.words l.banks l.all) (l.count - l.counter) l.symbols.items l.rest
    ≡ items_at (symbol_at l.words l.banks l.all) l.count [] l.bytes)
    × AreNamesOf l.names l.symbols.items
