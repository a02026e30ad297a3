use Rattle.procs_tree.proofs.CallCauses.{caused, cause, one-cause}
use Rattle.procs_tree.proofs.laws.first_call_fault.Goals as goal

pub returns : goal.returns
returns c = record {
  found = λ f e first. caused f e first;
  only = λ f e some. cause f e some;
  once = λ f a b one other. one-cause f a b one other;
}
