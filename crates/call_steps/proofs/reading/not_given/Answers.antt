use Rattle.std.proofs.Common.{inr, refl}
use Rattle.call_steps.proofs.reading.not_given.Goals as goal

pub returns-in-Ok : goal.returns-in-Ok
returns-in-Ok c = inr (c.in-Ok.shown, c.in-Ok.ensures, refl)
