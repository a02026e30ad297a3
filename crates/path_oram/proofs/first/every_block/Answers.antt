use Rattle.std.proofs.Common.{ap, ◌∷◌, ◌++◌, [], ◌∙◌, sym}
use Rattle.path_oram.proofs.Beginning.{range_from_zero}
use Rattle.path_oram.proofs.first.every_block.Goals as goal

pub loop-block-preserved : goal.loop-block-preserved
loop-block-preserved c =
    c.in_ok-push.ensures.items ∙ ap (λ l. l ++ c.loop-block.block ∷ []) c.loop-block.invariant
    ∙ sym (range_from_zero c.loop-block.block)
