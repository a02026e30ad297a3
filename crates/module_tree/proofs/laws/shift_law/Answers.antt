use Rattle.module_tree.proofs.LogicalShift.{logical_shift}
use Rattle.module_tree.proofs.laws.shift_law.Goals as goal

pub returns : goal.returns
returns c = logical_shift
