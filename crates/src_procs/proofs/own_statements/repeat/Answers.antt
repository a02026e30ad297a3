use Rattle.std.proofs.Common.{◌≡◌, [], ◌∷◌}
use Rattle.std.proofs.lemmas.Result.{on_ok_weaker}
use Rattle.src_tree.specs.Prelude.{test_of}
use Rattle.procs_tree.specs.Prelude.{block_of_all}
use Rattle.src_procs.specs.Prelude.{blocks_of, owns_all}
use Rattle.src_procs.proofs.OwnSteps.{own_loop}
use Rattle.src_procs.proofs.own_statements.repeat.Goals as goal

pub returns : goal.returns
returns c =
    on_ok_weaker c.open_block.result
    (λ (opens : blocks_of c.open_block.new.open_blocks.items ≡ [] ∷ blocks_of c.args.made.now.open_blocks.items).
    own_loop c.args.procs.now (test_of c.args.guard) (test_of c.in_ok-guard.guard) (block_of_all c.args.body.items)
    c.args.made.now (blocks_of c.open_block.new.open_blocks.items) (owns_all c.args.waiting.now.items)
    (owns_all c.waits_for_loop.new.waiting.items) c.in_ok-guard.ensures opens c.in_ok-waits_for_loop.ensures)
    c.open_block.ensures
