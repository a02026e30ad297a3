use Rattle.procs_tree.proofs.KeptMeaning.{kept_meaning}
use Rattle.procs_tree.proofs.laws.inlined_meaning.Goals as goal

pub returns : goal.returns
returns c = kept_meaning
