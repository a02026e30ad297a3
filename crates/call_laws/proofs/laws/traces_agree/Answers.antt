use Rattle.call_steps.proofs.Saying.{texts-agree, traces-agree}
use Rattle.call_laws.proofs.laws.traces_agree.Goals as goal

pub returns-clause-traces : goal.returns-clause-traces
returns-clause-traces c = traces-agree

pub returns-clause-texts : goal.returns-clause-texts
returns-clause-texts c = texts-agree
