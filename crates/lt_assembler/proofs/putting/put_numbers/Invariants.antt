use Rattle.std.specs.Prelude.{decimal}
use Rattle.std.proofs.Common.{◌≡◌, ◌∷◌, ◌++◌, flat_map, take}
use Rattle.lt_assembler.proofs.putting.put_numbers.Given as goal

abbrev pub invariant-loop-number : goal.invariant-loop-number
invariant-loop-number l =
    l.out.items ≡ l.initial.out.items ++ flat_map (λ number. 32 ∷ decimal number) (take l.number-index l.numbers)
