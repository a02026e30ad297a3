use Rattle.region_walk.proofs.HeldBehind.{alu-behind}
use Rattle.region_walk.proofs.behind.hold_operation.Goals as goal

pub returns : goal.returns
returns c = λ o.
    rw c.hold.ensures
    (alu-behind o c.args.values.now c.operation.new.values c.args.state.now c.requires.fits c.args.op
    c.args.register c.args.left c.args.right c.number.result c.number-2.result c.in_ok-number.number c.number.ensures
    c.number-2.ensures c.in_ok-number.ensures)
