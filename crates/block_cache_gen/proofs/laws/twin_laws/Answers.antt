use Rattle.block_cache_gen.proofs.StoredWords.{mirrors-differ}
use Rattle.block_cache_gen.proofs.laws.twin_laws.Goals as goal

pub returns : goal.returns
returns c = record { differ = λ once one other writes mirrors. mirrors-differ once one other mirrors writes }
