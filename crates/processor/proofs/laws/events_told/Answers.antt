use Rattle.processor.proofs.TellingPaths.{events_in-with_paths}
use Rattle.processor.proofs.laws.events_told.Goals as goal

pub returns : goal.returns
returns c = events_in-with_paths
