use Rattle.call_laws.proofs.CompiledRuns.{compiled-runs}
use Rattle.call_laws.proofs.laws.compiled_runs.Goals as goal

pub returns : goal.returns
returns c = compiled-runs
