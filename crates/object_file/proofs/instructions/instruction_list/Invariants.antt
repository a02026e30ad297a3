use Rattle.std.proofs.Common.{◌≡◌, [], ◌-◌}
use Rattle.object_file.specs.Prelude.{items_at, instruction_at}
use Rattle.object_file.proofs.instructions.instruction_list.Given as goal

abbrev pub invariant-loop : goal.invariant-loop
invariant-loop l =
    items_at (λ before. instruction_at l.banks l.all) (l.count - l.counter) l.code.items l.rest
    ≡ items_at (λ before. instruction_at l.banks l.all) l.count [] l.bytes
