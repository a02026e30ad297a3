use Rattle.source_folding.proofs.FoldedPrograms.{folded-means, folded-source_typed, folded-within, folded-weighs}
use Rattle.source_folding.proofs.laws.folding_laws.Goals as goal

pub returns : goal.returns
returns c = record {
  meaning = λ p wants store turns is fits. folded-means p wants store turns is fits;
  typed = folded-source_typed;
  within = folded-within;
  weight = folded-weighs;
}
