use Rattle.run_tools.proofs.Begun.{compares-begun}
use Rattle.run_tools.proofs.runs.compare_runs.Goals as goal

pub returns : goal.returns
returns g c =
    let one = c.in_ok-one.ensures in
    let other = c.in_ok-other.ensures in
    compares-begun c.args.accepted.now c.args.first.now c.args.second.now c.args.asked.cycles _ _ _ _
    one.object one.state other.object other.state c.compare.result c.compare.ensures
