use Rattle.std.proofs.Common.{◌≡◌, ◌++◌, take, flat_map}
use Rattle.object_file.specs.Prelude.{bank}
use Rattle.object_file.proofs.encoding.put_banks.Given as goal

abbrev pub invariant-loop-bank : goal.invariant-loop-bank
invariant-loop-bank l = l.out.items ≡ l.initial.out.items ++ flat_map bank (take l.bank-index l.banks)
