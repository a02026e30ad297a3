use Rattle.std.proofs.Common.{◌∙◌, arith, length-set}
use Rattle.symbolic_values.specs.Prelude.{SlotAt}
use Rattle.region_walk.proofs.EntryTables.{numbers-none, numbers-more}
use Rattle.region_walk.proofs.region_values.slot_numbers.Goals as goal

pub loop-slot-init : goal.loop-slot-init
loop-slot-init c = record {
  found = numbers-none SlotAt c.args.values.now _ c.requires.table;
  size = search arith;
}

pub loop-slot-preserved : goal.loop-slot-preserved
loop-slot-preserved c =
    let l = c.loop-slot in
    record {
      found = numbers-more l.slot SlotAt c.args.values.now l.values c.number_for.new.values l.numbers c.in-Ok.number
          l.invariant.found (omega (arith, l.invariant.size)) c.in-Ok.ensures;
      size = length-set l.numbers l.slot c.in-Ok.number ∙ l.invariant.size;
    }
