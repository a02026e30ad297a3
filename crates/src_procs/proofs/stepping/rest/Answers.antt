use Rattle.std.proofs.Common.{◌≡◌, ap, ◌∙◌}
use Rattle.std.proofs.lemmas.Result.{on_ok_weaker}
use Rattle.procs_tree.specs.Prelude.{Block, Then}
use Rattle.procs_pruning.specs.Prelude.{live_block, live_of}
use Rattle.src_procs.specs.Prelude.{Held, expanded, finished, with_scope, held_of, pending_all, scope_of}
use Rattle.src_procs.proofs.WholeBlocks.{whole_block}
use Rattle.src_procs.proofs.stepping.rest.Goals as goal

pub returns-in-Some : goal.returns-in-Some
returns-in-Some c =
    let held =
    with_scope (scope_of c.args.file.procs.now c.in-Some.scope) (held_of c.args.file.procs.now c.innermost.new.held) in
    on_ok_weaker c.first_of.result
    (λ (done : finished (pending_all c.first_of.new.waiting.items) (held_of c.args.file.procs.now c.first_of.new.held)
    ≡ finished (pending_all c.args.waiting.now.items)
    (expanded (Then (live_of c.index-statements-0.result) (live_block c.split_at.result.1.now)) held)).
    done
    ∙ (ap (λ (b : Block). finished (pending_all c.args.waiting.now.items) (expanded b held))
    (whole_block c.args.statements.now c.index-statements-0.result c.split_at.result.1.now c.if-is_empty.ensures
    c.index-statements-0.is c.split_at.ensures.back)
    ∙ ap (λ (h : Held). finished (pending_all c.args.waiting.now.items) (expanded (live_block c.args.statements.now) h))
    c.in-Some.ensures.found)) c.first_of.ensures
