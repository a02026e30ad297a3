use Rattle.block_cache_gen.proofs.Settled.{frame-has_homes}
use Rattle.block_cache_gen.proofs.laws.home_laws.Goals as goal

pub returns : goal.returns
returns c = record { homes = frame-has_homes }
