use Rattle.std.proofs.Common.{◌∙◌, ap}
use Rattle.lt_isa.proofs.Starts.{cycle-start, place-start}
use Rattle.part_rows.proofs.bus_rows.machine_of.Goals as goal

pub returns-in-Ok-clause-place : goal.returns-in-Ok-clause-place
returns-in-Ok-clause-place c = ap (λ m. m.state.place) c.in-Ok.ensures ∙ place-start c.args.accepted.now _

pub returns-in-Ok-clause-cycle : goal.returns-in-Ok-clause-cycle
returns-in-Ok-clause-cycle c = ap (λ m. m.state.cycle) c.in-Ok.ensures ∙ cycle-start c.args.accepted.now _
