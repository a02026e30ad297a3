use Rattle.src_tree.proofs.FirstFaults.{caused, cause}
use Rattle.src_tree.proofs.laws.first_cause.Goals as goal

pub returns : goal.returns
returns c = record { found = λ p e is. caused p e is; only = λ p e some. cause p e some }
