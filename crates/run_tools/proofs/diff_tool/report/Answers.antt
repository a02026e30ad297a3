use Rattle.std.proofs.Common.{sym, subst}
use Rattle.lt_isa.specs.Prelude.{trace}
use Rattle.run_tools.specs.Prelude.{SaysOfBoth}
use Rattle.run_tools.proofs.StatusLaws.{says-of-both}
use Rattle.run_tools.proofs.diff_tool.report.Goals as goal

pub returns : goal.returns
returns g c =
    let o = c.args.first.now.accepted in
    subst
    (SaysOfBoth (trace o c.args.first.now.inputs c.args.asked.cycles) (trace o c.args.second.now c.args.asked.cycles))
    (sym c.status_of.ensures) (says-of-both _ _ c.in_ok-comparison.comparison c.in_ok-comparison.ensures)
