use Rattle.call_laws.proofs.OneSourceFault.{one-source}
use Rattle.call_laws.proofs.laws.one_source.Goals as goal

pub returns : goal.returns
returns c = one-source
