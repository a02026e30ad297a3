use Rattle.call_steps.proofs.Saying.{no-inputs}
use Rattle.call_steps.proofs.reading.inputs_in.Goals as goal

pub returns-in-Err-clause-refused : goal.returns-in-Err-clause-refused
returns-in-Err-clause-refused c =
    no-inputs c.args.wants.now c.args.bytes.now c.in-Err.fault _ c.in-Err.ensures.first c.not_given.ensures
