use Rattle.call_laws.proofs.InferredOnce.{inferred-once}
use Rattle.call_laws.proofs.laws.inferred_once.Goals as goal

pub returns : goal.returns
returns c = inferred-once
