use Rattle.std.proofs.Common.{◌≡◌, [], ap, ◌∙◌, subst}
use Rattle.lt_isa.specs.Prelude.{trace_from, wants_of}
use Rattle.processor.specs.declared.ends.End.{End}
use Rattle.processor.specs.Prelude.{EndsAs}
use Rattle.call_steps.specs.Prelude.{sample_cycles, sample_inputs}
use Rattle.ghost_cli.proofs.SampleRuns.{sample-fits, ran-counted, ran-out}
use Rattle.ghost_cli.proofs.sample.counted_run.Goals as goal

pub load_seeded-requires-clause-fits : goal.load_seeded-requires-clause-fits
load_seeded-requires-clause-fits c =
    sample-fits c.args.accepted.now c.in_ok-inputs.inputs
    (c.in_ok-inputs.ensures
    ∙ ap sample_inputs (c.deref.ensures.value ∙ c.in_ok-wants.ensures.wants ∙ ap wants_of c.object.ensures.object))

pub returns-in-Ok-Halted : goal.returns-in-Ok-Halted
returns-in-Ok-Halted c =
    let given : c.in_ok-inputs.inputs ≡ sample_inputs (wants_of c.args.accepted.now) =
    c.in_ok-inputs.ensures
    ∙ ap sample_inputs (c.deref.ensures.value ∙ c.in_ok-wants.ensures.wants ∙ ap wants_of c.object.ensures.object) in
    let machine = c.in_ok-machine.machine in
    let end =
    subst (λ (e : End). EndsAs (trace_from machine.object machine.state sample_cycles) e) c.in-Ok-Halted.field-0-is
    c.in-Ok-Halted.ensures.end in
    ran-counted c.args.accepted.now machine.object c.in_ok-inputs.inputs machine.state given
    c.in_ok-machine.ensures.object c.in_ok-machine.ensures.state
    c.in-Ok-Halted.cycles c.run.new.watch _ end.0 (c.in-Ok-Halted.ensures.heard [] c.new-counts.ensures)

pub returns-in-Ok-Spent : goal.returns-in-Ok-Spent
returns-in-Ok-Spent c =
    let given : c.in_ok-inputs.inputs ≡ sample_inputs (wants_of c.args.accepted.now) =
    c.in_ok-inputs.ensures
    ∙ ap sample_inputs (c.deref.ensures.value ∙ c.in_ok-wants.ensures.wants ∙ ap wants_of c.object.ensures.object) in
    let machine = c.in_ok-machine.machine in
    ran-out c.args.accepted.now machine.object c.in_ok-inputs.inputs machine.state given c.in_ok-machine.ensures.object
    c.in_ok-machine.ensures.state
    (subst (λ (e : End). EndsAs (trace_from machine.object machine.state sample_cycles) e) c.in-Ok-Spent.field-0-is
    c.in-Ok-Spent.ensures.end)
