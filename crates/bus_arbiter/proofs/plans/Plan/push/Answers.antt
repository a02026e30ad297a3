use Rattle.std.proofs.Common.{◌<◌, length, sym, subst}
use Rattle.bus_arbiter.specs.Prelude.{IsPlan, PlanTakes}
use Rattle.bus_arbiter.proofs.PlanShares.{plan-more}
use Rattle.bus_arbiter.proofs.plans.Plan.push.Goals.{in-Ok, in-Err}
use Rattle.bus_arbiter.proofs.plans.Plan.push.Goals as goal

pub invariant_of-self : goal.invariant_of-self
invariant_of-self c = elim c.match-push.branch [
  | in-Ok w ↦
      subst IsPlan (sym w.in-Ok.ensures.items)
      (plan-more c.self.inside.shares.items c.args.share c.self.invariant
      (subst (λ l. length l < 8) (sym c.self.view_is) c.requires.room) c.requires.fits
      (subst (λ l. PlanTakes l c.args.share) (sym c.self.view_is) c.requires.taken))
  | in-Err w ↦ subst IsPlan (sym w.in-Err.ensures.items) c.self.invariant
]
