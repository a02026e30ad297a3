use Rattle.bus_arbiter.proofs.PlanShares.{plan-more}
use Rattle.bus_arbiter.proofs.PlannedRuns.{none-overlaps, on-bus, plan-none, traces-same}
use Rattle.bus_arbiter.proofs.ShareRanges.{share-fits}
use Rattle.bus_arbiter.proofs.laws.plan_laws.Goals as goal

pub returns : goal.returns
returns c = record {
  none = plan-none;
  one_more = plan-more;
  own_share = share-fits;
  on_bus = on-bus;
  traces = traces-same;
  apart = λ os ds all plan n. none-overlaps os ds n all plan;
}
