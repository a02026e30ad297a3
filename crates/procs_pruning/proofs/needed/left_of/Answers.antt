use Rattle.std.proofs.Common.{List, map, ap, ◌∙◌}
use Rattle.gr_base.specs.Prelude.{found_under}
use Rattle.procs_pruning.specs.declared.live.Live.{Live}
use Rattle.procs_tree.specs.declared.trees.Param.{Param}
use Rattle.procs_tree.specs.Prelude.{by_number, parameter_of, procedure_of}
use Rattle.procs_pruning.specs.Prelude.{kept_by, kept_from, marked_all, bodies_of, body_of, live_block}
use Rattle.procs_pruning.proofs.NeededNames.{as_long, left_pruned}
use Rattle.procs_pruning.proofs.needed.left_of.Goals as goal

pub returns : goal.returns
returns c =
    let ps = map procedure_of c.args.procs.now in
    let numbers = found_under c.args.numbers.now in
    let bodies = bodies_of c.args.bodies.now in
    let start = found_under c.new-needed.result in
    let needed = found_under c.mark_all.new.needed in
    left_pruned ps bodies numbers start (procedure_of c.args.p.now)
    (body_of (record { statements = c.args.statements; needed = c.mark_all.new.needed; kept = c.in_ok-kept.kept }))
    c.args.k c.requires.bodies c.requires.numbers (as_long c.args.bodies.now c.args.k c.requires.all) c.requires.same
    (c.in_ok-mark_all.ensures
    ∙ ap (λ (ss : List Live). marked_all (kept_by bodies (by_number ps c.args.k numbers)) start (live_block ss))
    c.as_slice.ensures.value)
    (c.in_ok-kept.ensures
    ∙ ap (λ (qs : List Param). kept_from needed 0 (map parameter_of qs)) c.as_slice-2.ensures.value)
