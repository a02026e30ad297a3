use Rattle.recursive_oram.proofs.ByLevel.{shows_by_level as by_level}
use Rattle.recursive_oram.proofs.laws.level_laws.Goals as goal

pub returns : goal.returns
returns c = by_level
