use Rattle.std.proofs.Common.{◌∙◌, arith, length-set}
use Rattle.symbolic_values.specs.Prelude.{Reg}
use Rattle.region_walk.proofs.EntryTables.{numbers-none, numbers-more}
use Rattle.region_walk.proofs.region_values.register_numbers.Goals as goal

pub loop-register-init : goal.loop-register-init
loop-register-init c = record {
  found = numbers-none Reg c.args.values.now _ c.requires.table;
  size = search arith;
}

pub loop-register-preserved : goal.loop-register-preserved
loop-register-preserved c =
    let l = c.loop-register in
    record {
      found = numbers-more l.register Reg c.args.values.now l.values c.number_for.new.values l.numbers c.in-Ok.number
          l.invariant.found (omega (arith, l.invariant.size)) c.in-Ok.ensures;
      size = length-set l.numbers l.register c.in-Ok.number ∙ l.invariant.size;
    }
