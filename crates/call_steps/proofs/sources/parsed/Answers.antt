use Rattle.call_steps.proofs.FirstSourceFaults.{plain-first}
use Rattle.call_steps.proofs.sources.parsed.Goals as goal

pub returns-in-Ok-clause-found : goal.returns-in-Ok-clause-found
returns-in-Ok-clause-found c = c.in-Ok.ensures.spelled

pub returns-in-Err-Fault-clause-refused : goal.returns-in-Err-Fault-clause-refused
returns-in-Err-Fault-clause-refused c =
    plain-first c.args.text.now c.in-Err-Fault.fault c.text_fault.result c.text_fault.ensures
    (rw c.in-Err-Fault.field-0-is at c.in-Err-Fault.ensures.refused)
