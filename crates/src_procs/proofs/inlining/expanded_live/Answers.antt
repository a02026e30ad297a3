use Rattle.std.proofs.Common.{refl, ap}
use Rattle.src_procs.specs.declared.expanding.Pending.{Pending}
use Rattle.std.proofs.Common.{List}
use Rattle.procs_pruning.specs.Prelude.{live_block}
use Rattle.src_procs.specs.Prelude.{held_of, pending_all}
use Rattle.src_procs.proofs.WholeFiles.{own_expanded}
use Rattle.src_procs.proofs.inlining.expanded_live.Goals as goal

pub returns : goal.returns
returns c =
    let procs = c.args.file.procs.now in
    own_expanded procs c.new.result.items c.args.made c.expand.new.held.made (held_of procs c.scoped.new.held)
    (held_of procs c.expand.new.held) (live_block c.args.live.now) (pending_all c.waits_for.new.waiting.items)
    (pending_all c.new-waiting.result.items) c.new.ensures.items c.in_ok-scoped.ensures c.in_ok-waits_for.ensures
    (ap (λ (ws : List Pending). pending_all ws) c.new-waiting.ensures.items) c.in_ok-expand.ensures refl
