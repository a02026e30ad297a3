use Rattle.std.proofs.Common.{ap, sym, ◌∙◌}
use Rattle.lt_isa.specs.Prelude.{start_of}
use Rattle.lt_isa.proofs.Steps.{step_start-at, step_start-outside}
use Rattle.processor.proofs.machine.Machine.start.Goals as goal

pub returns-in-Some-clause-value : goal.returns-in-Some-clause-value
returns-in-Some-clause-value g c =
    c.start_at.ensures
    ∙ ap (λ m. start_of m.object.profile c.in-Some.instruction m.state.cycle) c.self.view_is
    ∙ sym (step_start-at c.args.self.now.object c.args.self.now.state c.in-Some.instruction
    (sym c.fetch.ensures.value ∙ c.in-Some.is))

pub returns-in-None-clause-value : goal.returns-in-None-clause-value
returns-in-None-clause-value g c =
    ap (λ m. m.state.cycle) c.self.view_is
    ∙ sym (step_start-outside c.args.self.now.object c.args.self.now.state (sym c.fetch.ensures.value ∙ c.in-None.is))
