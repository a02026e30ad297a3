use Rattle.std.proofs.Common.{subst}
use Rattle.lt_isa.specs.Prelude.{State, Parts, start_state, trace_from}
use Rattle.processor.specs.declared.ends.End.{End}
use Rattle.processor.specs.Prelude.{EndsAs, NoHalt}
use Rattle.run_tools.proofs.runs.words_left.Goals as goal

pub returns-in-Ok-Spent : goal.returns-in-Ok-Spent
returns-in-Ok-Spent c =
    subst (λ (o : Parts). NoHalt (trace_from o (start_state c.args.accepted.now c.args.inputs.now) c.args.cycles))
    c.in_ok-machine.ensures.object
    (subst (λ (s : State). NoHalt (trace_from c.in_ok-machine.machine.object s c.args.cycles))
    c.in_ok-machine.ensures.state
    (subst
    (λ (e : End). EndsAs (trace_from c.in_ok-machine.machine.object c.in_ok-machine.machine.state c.args.cycles) e)
    c.in-Ok-Spent.field-0-is c.in-Ok-Spent.ensures.end))
