use Rattle.std.proofs.Common.{sym, subst}
use Rattle.region_walk.specs.Prelude.{HasEntries}
use Rattle.region_walk.proofs.EntryTables.{entries-from}
use Rattle.region_walk.proofs.region_values.entry_table.Goals as goal

pub returns : goal.returns
returns c =
    subst HasEntries (sym c.in-Ok-new.ensures.ok)
    (entries-from c.for_code-values.result c.register_numbers.new.values c.slot_numbers.new.values c.in-Ok.numbers
    c.in-Ok-slot_numbers.numbers c.for_code-values.ensures.empty c.in-Ok.ensures c.in-Ok-slot_numbers.ensures)
