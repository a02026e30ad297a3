use Rattle.std.proofs.Common.{ap, ◌∙◌}
use Rattle.lt_isa.specs.Prelude.{State}
use Rattle.run_tools.proofs.Begun.{first-cycle, first-place}
use Rattle.object_tools.proofs.profiling.costs_of_run.Goals as goal

pub run_costs-requires-clause-place : goal.run_costs-requires-clause-place
run_costs-requires-clause-place c =
    ap (λ (s : State). s.place) c.in_ok-machine.ensures.state
    ∙ first-place c.args.given.now.accepted c.args.given.now.inputs

pub run_costs-requires-clause-cycle : goal.run_costs-requires-clause-cycle
run_costs-requires-clause-cycle c =
    ap (λ (s : State). s.cycle) c.in_ok-machine.ensures.state
    ∙ first-cycle c.args.given.now.accepted c.args.given.now.inputs
