use Rattle.resident_alloc.proofs.SoundPlan.{resident_sound}
use Rattle.resident_alloc.proofs.laws.resident_laws.Goals as goal

pub returns : goal.returns
returns c = record { sound = resident_sound }
