use Rattle.scratch_alloc.proofs.StandardPlan.{standard_sound}
use Rattle.scratch_alloc.proofs.laws.plan_laws.Goals as goal

pub returns : goal.returns
returns c = record { standard = standard_sound }
