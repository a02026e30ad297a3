use Rattle.std.proofs.Common.{map}
use Rattle.gr_base.specs.Prelude.{found_under}
use Rattle.procs_tree.specs.Prelude.{block_of_all, procedure_of}
use Rattle.procs_pruning.specs.Prelude.{live_block}
use Rattle.procs_pruning.proofs.Pruning.{left_same}
use Rattle.procs_pruning.proofs.live.live_statements.Goals as goal

pub returns : goal.returns
returns c =
    left_same (map procedure_of c.args.procs.now) c.args.sizes.now c.args.callable c.requires.sizes
    (found_under c.args.numbers.now) c.requires.numbers (live_block c.in_ok-all.all.items)
    (block_of_all c.args.statements.now) c.in_ok-all.ensures
