use Rattle.std.proofs.Common.{List, ap, ◌∙◌}
use Rattle.procs_pruning.specs.declared.live.Live.{Live}
use Rattle.procs_pruning.specs.Prelude.{live_block}
use Rattle.src_procs.specs.Prelude.{expanded, own_held}
use Rattle.src_procs.proofs.WholeFiles.{own_whole}
use Rattle.src_procs.proofs.inlining.expanded_copy.Goals as goal

pub returns : goal.returns
returns c =
    let procs = c.args.procs.now in
    let start = own_held procs c.in_ok-nothing.nothing in
    own_whole procs c.args.body.now (live_block c.in_ok-live.live.items) start (own_held procs c.in_ok-made.made)
    c.in_ok-live.ensures c.in_ok-nothing.ensures
    (c.in_ok-made.ensures ∙ ap (λ (ss : List Live). expanded (live_block ss) start) c.as_slice-2.ensures.value)
