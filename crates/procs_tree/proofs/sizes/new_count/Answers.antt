use Rattle.std.proofs.Common.{List, map, ap, ◌∙◌}
use Rattle.src_tree.specs.Prelude.{shown_number}
use Rattle.procs_tree.specs.declared.trees.Param.{Param}
use Rattle.procs_tree.specs.Prelude.{scalars, parameter_of}
use Rattle.procs_tree.proofs.Measured.{counted_new}
use Rattle.procs_tree.proofs.sizes.new_count.Goals as goal

pub returns : goal.returns
returns c =
    counted_new c.args.params.now c.args.arguments.now c.args.locals.now c.min.result c.scalars.result
    c.saturating_add.result c.min.ensures
    (c.scalars.ensures
    ∙ ap (λ (ps : List Param). shown_number (scalars (map parameter_of ps))) c.split_at.ensures.front)
    c.saturating_add.ensures
