use Rattle.machine_verbs.proofs.Watches.{text-alone}
use Rattle.call_laws.proofs.laws.trace_alone.Goals as goal

pub returns : goal.returns
returns c = text-alone
