use Rattle.spread_alloc.proofs.FitsSpread.{sound_fits}
use Rattle.spread_alloc.proofs.SoundSpread.{spread_plan_sound}
use Rattle.spread_alloc.proofs.laws.spread_laws.Goals as goal

pub returns : goal.returns
returns c = record { fits = sound_fits; sound = spread_plan_sound }
