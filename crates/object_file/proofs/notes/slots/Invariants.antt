use Rattle.std.proofs.Common.{◌≡◌, [], ◌-◌, take, length}
use Rattle.lt_isa.specs.Prelude.{is_slot_claim}
use Rattle.object_file.specs.Prelude.{items_at, field_at}
use Rattle.object_file.proofs.notes.slots.Given as goal

abbrev pub invariant-loop-i : goal.invariant-loop-i
invariant-loop-i l =
    (length l.slots ≡ 8)
    × (items_at (λ before. field_at 1 l.all (is_slot_claim l.banks)) (8 - l.i) (take l.i l.slots) l.rest
    ≡ items_at (λ before. field_at 1 l.all (is_slot_claim l.banks)) 8 [] l.bytes)
