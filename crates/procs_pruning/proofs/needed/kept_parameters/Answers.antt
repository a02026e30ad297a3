use Rattle.std.proofs.Common.{map}
use Rattle.gr_base.specs.Prelude.{found_under}
use Rattle.procs_tree.specs.Prelude.{parameter_of}
use Rattle.procs_pruning.specs.Prelude.{kept_from, placed_of}
use Rattle.procs_pruning.proofs.KeptParameters.{kept_more}
use Rattle.procs_pruning.proofs.needed.kept_parameters.Goals as goal

pub loop-i-preserved : goal.loop-i-preserved
loop-i-preserved c =
    kept_more (found_under c.args.needed.now) c.args.params.now c.loop-i.i c.index-params-i.result
    (map placed_of c.loop-i.kept.items) (map placed_of c.keep.new.kept.items)
    (kept_from (found_under c.args.needed.now) 0 (map parameter_of c.args.params.now)) c.loop-i-test.true
    c.index-params-i.is c.loop-i.invariant c.in_ok-keep.ensures
