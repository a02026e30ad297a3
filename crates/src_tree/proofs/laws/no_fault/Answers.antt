use Rattle.src_tree.proofs.Faultless.{fine, faultless}
use Rattle.src_tree.proofs.laws.no_fault.Goals as goal

pub returns : goal.returns
returns c = record {
  typed = λ p e. (fine p e).typed;
  within = λ p e. (fine p e).within;
  faultless = λ p t w. faultless p (record { typed = t; within = w });
}
