use Rattle.std.proofs.Common.{inr, sym, subst}
use Rattle.lt_isa.specs.Prelude.{trace}
use Rattle.run_tools.specs.Prelude.{SaysOfOne}
use Rattle.run_tools.proofs.StatusLaws.{says-as}
use Rattle.object_tools.proofs.profiling.profile_report.Goals as goal

pub returns : goal.returns
returns c =
    inr (subst (SaysOfOne (trace c.args.given.now.accepted c.args.given.now.inputs c.args.cycles)) (sym c.end_status.ensures)
    (says-as _ c.in_ok-costs.costs.end c.in_ok-costs.ensures.end))
