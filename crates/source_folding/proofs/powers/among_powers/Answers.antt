use Rattle.std.proofs.Common.{arith, below_more}
use Rattle.source_folding.proofs.AmongPowers.{power_found, power_missed, no_power}
use Rattle.source_folding.proofs.powers.among_powers.Goals as goal

pub returns-then-k-number : goal.returns-then-k-number
returns-then-k-number c =
    power_found c.args.number c.args.count c.loop-k.k c.loop-k-test.true c.requires c.loop-k.invariant
    c.if-k-number.true

pub loop-k-preserved : goal.loop-k-preserved
loop-k-preserved c =
    below_more _ _ c.loop-k.invariant (power_missed c.args.number c.loop-k.k (omega arith) c.if-k-number.false)

pub returns : goal.returns
returns c = no_power c.args.number c.args.count c.loop-k.k c.loop-k-test.false c.loop-k.invariant
