use Rattle.std.proofs.Common.{subst}
use Rattle.symbolic_values.specs.Prelude.{IsTable}
use Rattle.symbolic_values.proofs.TableLaws.{table-first}
use Rattle.symbolic_values.proofs.values.Values.keep.Goals as goal

pub returns-clause-table : goal.returns-clause-table
returns-clause-table c =
    let old = c.args.self.now in
    let table : IsTable old = subst IsTable c.self.view_is c.self.invariant in
    rw (c.truncate.ensures.keys, c.self.view_is) (table-first old c.args.count table)

pub invariant_of-self : goal.invariant_of-self
invariant_of-self c = returns-clause-table c
