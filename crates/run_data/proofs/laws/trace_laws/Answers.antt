use Rattle.run_data.proofs.TraceUnique.{same-trace}
use Rattle.run_data.proofs.laws.trace_laws.Goals as goal

pub returns : goal.returns
returns c = record { one_reading = same-trace }
