use Rattle.std.proofs.Common.{◌≡◌, sym, ap₂, ◌∙◌, subst}
use Rattle.lt_isa.specs.Prelude.{State, outputs, FitsObject, final, start_state, trace_from, final_from, Parts}
use Rattle.lt_isa.proofs.Variables.{final_outputs-fit}
use Rattle.processor.specs.declared.ends.End.{End}
use Rattle.processor.specs.Prelude.{EndsAs, NoHalt}
use Rattle.machine_verbs.proofs.run.run_to_end.Goals as goal

pub outputs_of-requires-clause-fits : goal.outputs_of-requires-clause-fits
outputs_of-requires-clause-fits g c =
    let left : c.run.new.self.state ≡ final c.args.accepted.now c.args.inputs.now c.args.cycles =
    c.in-Ok-Halted.ensures.state ∙ ap₂ (λ (o : Parts) (s : State). final_from o s c.args.cycles)
    c.in_ok-machine.ensures.object c.in_ok-machine.ensures.state in
    subst (λ (s : State). FitsObject c.args.accepted.now (outputs c.args.accepted.now s)) (sym left)
    (final_outputs-fit c.args.accepted.now c.requires.in_range c.args.inputs.now c.requires.fits c.args.cycles)

pub returns-in-Ok-Spent : goal.returns-in-Ok-Spent
returns-in-Ok-Spent g c =
    subst (λ (o : Parts). NoHalt (trace_from o (start_state c.args.accepted.now c.args.inputs.now) c.args.cycles))
    c.in_ok-machine.ensures.object
    (subst (λ (s : State). NoHalt (trace_from c.in_ok-machine.machine.object s c.args.cycles))
    c.in_ok-machine.ensures.state
    (subst
    (λ (e : End). EndsAs (trace_from c.in_ok-machine.machine.object c.in_ok-machine.machine.state c.args.cycles) e)
    c.in-Ok-Spent.field-0-is c.in-Ok-Spent.ensures.end))
