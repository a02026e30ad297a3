use Rattle.std.proofs.Common.{◌≡◌, [], ◌-◌, vec_len}
use Rattle.object_file.specs.Prelude.{items_at, bank_at}
use Rattle.object_file.proofs.header.bank_list.Given as goal

abbrev pub invariant-loop : goal.invariant-loop
invariant-loop l =
    (vec_len l.banks ≡ l.counter) × (items_at (bank_at l.all) (l.count - l.counter) l.banks.items l.rest
    ≡ items_at (bank_at l.all) l.count [] l.bytes)
