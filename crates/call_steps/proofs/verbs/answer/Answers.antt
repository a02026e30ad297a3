use Rattle.call_steps.specs.Prelude.{NoCalls}
use Rattle.call_steps.proofs.Answering.{asked-is}
use Rattle.call_steps.proofs.CallsMade.{work-made}
use Rattle.call_steps.proofs.verbs.answer.Goals as goal

pub returns-in_err-words-clause-calls : goal.returns-in_err-words-clause-calls
returns-in_err-words-clause-calls g c = NoCalls _ _

pub returns-in_default-clause-calls : goal.returns-in_default-clause-calls
returns-in_default-clause-calls g c = NoCalls _ _

pub returns-clause-calls : goal.returns-clause-calls
returns-clause-calls g c =
    work-made _ _ _ _
    (asked-is g.S.Request.work c.in_ok-words.field-0 c.in-Some.words _ c.in-Some.is c.in_ok-words.ensures.asked)
    c.serve.ensures.calls
