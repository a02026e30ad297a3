use Rattle.std.proofs.Common.{◌≡◌, ◌++◌, drop}
use Rattle.std.specs.List.{All}
use Rattle.std.specs.Prelude.{IsTrue}
use Rattle.gr_word.specs.Prelude.{is_name}
use Rattle.bank_alloc.specs.Prelude.{placed_symbols}
use Rattle.bank_alloc.proofs.symbol_lists.symbols_at.Given as goal

abbrev pub invariant-loop-i : goal.invariant-loop-i
invariant-loop-i l =
    (l.symbols.items ++ placed_symbols (drop l.i l.decls) (drop l.i l.places) ≡ placed_symbols l.decls l.places)
    × All (λ symbol. IsTrue (is_name symbol.name)) l.symbols.items
