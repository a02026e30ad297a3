use Rattle.std.proofs.Common.{◌≡◌, ◌≤◌, take}
use Rattle.lt_isa.specs.Prelude.{SymbolFits, total_length}
use Rattle.gr_base.proofs.EachAfter.{EachBelow}
use Rattle.lt_isa.proofs.ranges.symbols_fit.Given as goal

abbrev pub invariant-loop-i : goal.invariant-loop-i
invariant-loop-i l =
    EachBelow (SymbolFits l.block_words l.banks) l.symbols l.i
    × (l.total ≡ total_length (take l.i l.symbols)) × (l.total ≤ 4194304)
