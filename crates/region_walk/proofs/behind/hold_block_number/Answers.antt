use Rattle.std.proofs.Common.{◌-◌, ◌^◌, length, sym, subst, arith}
use Rattle.region_walk.specs.Prelude.{NumberedSlotFits}
use Rattle.region_walk.proofs.HeldWords.{held-small}
use Rattle.region_walk.proofs.HeldBehind.{idb-behind}
use Rattle.region_walk.proofs.behind.hold_block_number.Goals as goal

pub hold-requires-clause-small : goal.hold-requires-clause-small
hold-requires-clause-small c =
    held-small (2 ^ 32 - 1) c.block_number.result (omega arith)
    (c.block_number.ensures.fits (2 ^ 32 - 1)
    (subst (NumberedSlotFits (2 ^ 32 - 1)) (sym c.slot.ensures) c.requires.small))

pub returns : goal.returns
returns c = λ o nodes table fits.
    rw c.hold.ensures
    (idb-behind o nodes c.args.state.now table fits c.args.register c.args.slot c.slot.result c.block_number.result
    c.slot.ensures (c.block_number.ensures.held nodes)
    (c.block_number.ensures.fits (length nodes)
    (subst (NumberedSlotFits (length nodes)) (sym c.slot.ensures) (fits.slots c.args.slot))))
