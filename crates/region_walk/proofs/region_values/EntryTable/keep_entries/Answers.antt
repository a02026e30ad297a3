use Rattle.region_walk.proofs.EntryTables.{entries-first}
use Rattle.region_walk.proofs.region_values.EntryTable.keep_entries.Goals as goal

pub returns : goal.returns
returns c =
    entries-first c.args.count c.args.self.now c.keep.new.self c.keep.ensures.first c.keep.ensures.table c.requires
