use Rattle.call_steps.proofs.Saying.{no-object}
use Rattle.call_steps.proofs.reading.object_in.Goals as goal

pub returns-in-Ok-clause-found : goal.returns-in-Ok-clause-found
returns-in-Ok-clause-found c = record { in_range = c.in-Ok.ensures.found.0; spelled = c.in-Ok.ensures.found.1 }

pub returns-in-Err-clause-refused : goal.returns-in-Err-clause-refused
returns-in-Err-clause-refused c = no-object _ _ _ c.in-Err.ensures.first c.undecoded.ensures
