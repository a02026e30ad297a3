use Rattle.std.proofs.Common.{◌∙◌, refl}
use Rattle.run_tools.proofs.reports.print.Goals as goal

pub returns-in-Ok : goal.returns-in-Ok
returns-in-Ok g c = λ other. c.in-Ok.ensures.calm ∙ c.put_outcome-status.ensures other

pub returns-in-Err : goal.returns-in-Err
returns-in-Err g c = λ other. absurd (other refl)
