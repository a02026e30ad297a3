use Rattle.std.proofs.Common.{◌≡◌, [], ◌-◌}
use Rattle.object_file.specs.Prelude.{items_at, note_at}
use Rattle.object_file.proofs.notes.note_list.Given as goal

abbrev pub invariant-loop : goal.invariant-loop
invariant-loop l =
    items_at (note_at l.banks l.all) (l.count - l.counter) l.notes.items l.rest
    ≡ items_at (note_at l.banks l.all) l.count [] l.bytes
