use Rattle.flat_tree.proofs.Bounds.{all_below}
use Rattle.flat_tree.proofs.Keeping.{keeps_same, keeps_then}
use Rattle.flat_tree.proofs.laws.keeps_laws.Goals as goal

pub returns : goal.returns
returns c = record {
  same = keeps_same;
  composed = λ n p a b d le f g. keeps_then le f g;
  bounded = all_below;
}
