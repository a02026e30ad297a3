use Rattle.region_walk.proofs.HeldBehind.{ldw-behind}
use Rattle.region_walk.proofs.behind.hold_word.Goals as goal

pub returns : goal.returns
returns c =
    rw c.hold.ensures
    (ldw-behind c.args.object.now c.args.values.now c.word.new.values c.args.state.now c.requires.fits
    c.args.register c.args.slot c.args.place c.slot.result c.number.result c.in_ok-number.number c.slot.ensures
    c.number.ensures c.in_ok-number.ensures)
