use Rattle.std.proofs.Common.{map, ap, ◌∙◌}
use Rattle.gr_base.specs.Prelude.{found_under}
use Rattle.procs_tree.specs.Prelude.{by_number, procedure_of}
use Rattle.procs_pruning.specs.Prelude.{trees_seen}
use Rattle.procs_pruning.proofs.NeededNames.{none_marked}
use Rattle.procs_pruning.proofs.needed.mark_call.Goals as goal

pub returns-in-None : goal.returns-in-None
returns-in-None c =
    none_marked c.args.file.procs.now c.args.file.bodies.now (found_under c.args.needed.now) (trees_seen c.args.arguments.now) _
    (c.in-None.ensures.found
    ∙ ap (by_number (map procedure_of c.args.file.procs.now) c.args.callable (found_under c.args.file.numbers.now))
    c.bytes.ensures.bytes)
