use Rattle.std.proofs.Common.{◌≡◌, map, take}
use Rattle.lt_isa.specs.Prelude.{want_of}
use Rattle.lt_isa.proofs.objects.wants_of.Given as goal

abbrev pub invariant-loop-symbol : goal.invariant-loop-symbol
invariant-loop-symbol l = l.wants.items ≡ map want_of (take l.symbol-index l.symbols)
