use Rattle.src_parser.specs.Prelude.{limits}
use Rattle.src_parser.proofs.Refused.{one_tree}
use Rattle.src_parser.proofs.laws.one_tree.Goals as goal

pub returns : goal.returns
returns c = one_tree limits
