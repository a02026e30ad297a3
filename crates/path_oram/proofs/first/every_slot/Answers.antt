use Rattle.std.proofs.Common.{◌∷◌, ◌++◌, [], ◌∙◌, ap, map, sym}
use Rattle.std.specs.List.{range_with_len}
use Rattle.std.proofs.lemmas.List.{map-append}
use Rattle.path_oram.specs.Prelude.{slot_of}
use Rattle.path_oram.proofs.Beginning.{range_from_zero}
use Rattle.path_oram.proofs.first.every_slot.Goals as goal

pub loop-block-preserved : goal.loop-block-preserved
loop-block-preserved c =
    let block = c.loop-block.block in
    let place = slot_of c.args.leaves.now in
    c.in_ok-push.ensures.items ∙ ap (λ l. l ++ place block ∷ []) c.loop-block.invariant
    ∙ sym (map-append place (range_with_len 0 block) (block ∷ []))
    ∙ ap (map place) (sym (range_from_zero block))
