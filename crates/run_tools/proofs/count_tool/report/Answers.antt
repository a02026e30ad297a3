use Rattle.std.proofs.Common.{sym, subst}
use Rattle.lt_isa.specs.Prelude.{trace}
use Rattle.run_tools.specs.Prelude.{SaysOfOne, end_status}
use Rattle.run_tools.proofs.Begun.{trace-begun}
use Rattle.run_tools.proofs.StatusLaws.{says-of-one}
use Rattle.run_tools.proofs.count_tool.report.Goals as goal

pub returns : goal.returns
returns g c =
    let o = c.args.given.now.accepted in
    let inputs = c.args.given.now.inputs in
    let begun = c.in_ok-machine.ensures in
    let end = c.in_ok-tally.tally.end in
    subst (SaysOfOne (trace o inputs c.args.asked.cycles)) (sym c.end_status.ensures)
    (subst (λ events. SaysOfOne events (end_status end))
    (trace-begun o inputs c.args.asked.cycles _ _ begun.object begun.state)
    (says-of-one _ end c.in_ok-tally.ensures.counts.ends))
