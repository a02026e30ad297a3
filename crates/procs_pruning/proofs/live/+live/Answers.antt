use Rattle.std.proofs.Common.{◌≤◌, map, length, arith}
use Rattle.gr_base.specs.Prelude.{found_under}
use Rattle.procs_tree.specs.Prelude.{sizes_by, by_number, block_of_all, procedure_of}
use Rattle.procs_pruning.specs.Prelude.{pruned, live_of}
use Rattle.procs_pruning.proofs.Pruning.{all_behind}
use Rattle.procs_pruning.proofs.live.+live.Goals as goal

pub live_all-returns : goal.live_all-returns
live_all-returns t c =
    let sizes =
    sizes_by c.args.sizes.now
    (by_number (map procedure_of c.args.procs.now) c.args.callable (found_under c.args.numbers.now)) in
    let done = c.loop-statement-test.false in
    let le : length c.args.statements.now ≤ c.loop-statement.statement-index = omega (done, arith) in
    all_behind sizes (map live_of c.loop-statement.all.items) c.args.statements.now c.loop-statement.statement-index
    (pruned sizes (block_of_all c.args.statements.now)) le c.loop-statement.invariant
