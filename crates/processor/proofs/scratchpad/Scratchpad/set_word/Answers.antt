use Rattle.std.proofs.Common.{◌<◌, length, ap, ◌∙◌, arith}
use Rattle.std.proofs.Math.Facts.{to_z-of_z}
use Rattle.std.specs.Vec.{with_item}
use Rattle.processor.specs.Prelude.{slot_with_word, cell_slot}
use Rattle.processor.proofs.Cells.{pad_of-set, slots-at, with_word-cell}
use Rattle.processor.proofs.scratchpad.Scratchpad.set_word.Goals as goal

pub returns : goal.returns
returns c =
    let cell = c.index_mut-cell.result.now in
    let within : c.args.slot < length c.self.inside.cells.items = omega (arith, c.self.invariant.0) in
    pad_of-set c.self.inside.words c.self.inside.cells.items c.args.self.now c.args.slot
    (record cell { words = with_item cell.words c.args.index _ })
    _
    c.self.view_is
    (with_word-cell cell.bound cell.bank cell.block cell.words.items c.args.index _
    ∙ ap (λ word. slot_with_word c.args.index word (cell_slot cell)) (to_z-of_z c.ranges.word)
    ∙ ap (λ found. slot_with_word c.args.index c.args.word found)
    (slots-at c.self.inside.cells.items c.args.self.now.slots
    c.args.slot cell (ap (λ p. p.slots) c.self.view_is) within c.index_mut-cell.ensures.value))
