use Rattle.procs_tree.proofs.Counted.{file_sized}
use Rattle.procs_tree.proofs.laws.inlined_size.Goals as goal

pub returns : goal.returns
returns c = file_sized
