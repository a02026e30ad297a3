use Rattle.std.proofs.Common.{sym, subst}
use Rattle.bus_arbiter.proofs.Refusals.{Judged, judged, none-takes, some-refuses}
use Rattle.bus_arbiter.proofs.plans.refused.Goals as goal

pub returns-clause-takes : goal.returns-clause-takes
returns-clause-takes c =
    none-takes c.args.shares.now c.args.share.now c.refusal_of.result
    (subst (Judged c.args.shares.now c.args.share.now) (sym c.refusal_of.ensures)
    (judged c.args.shares.now c.args.share.now c.requires.plan.fits c.requires.fits))

pub returns-clause-refuses : goal.returns-clause-refuses
returns-clause-refuses c =
    some-refuses c.args.shares.now c.args.share.now c.refusal_of.result
    (subst (Judged c.args.shares.now c.args.share.now) (sym c.refusal_of.ensures)
    (judged c.args.shares.now c.args.share.now c.requires.plan.fits c.requires.fits))
