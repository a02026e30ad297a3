use Rattle.call_laws.proofs.Calls.{calls-as-meant}
use Rattle.call_laws.proofs.laws.calls_as_meant.Goals as goal

pub returns : goal.returns
returns c = calls-as-meant
