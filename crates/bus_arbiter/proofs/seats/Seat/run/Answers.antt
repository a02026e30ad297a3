use Rattle.std.proofs.Common.{Some, subst}
use Rattle.lt_isa.specs.Prelude.{trace_from}
use Rattle.processor.specs.declared.ends.End.{End}
use Rattle.processor.specs.Prelude.{EndsAs}
use Rattle.bus_arbiter.specs.Prelude.{Core, LeftAt, OnItsWay}
use Rattle.bus_arbiter.proofs.BusSteps.{left-halted, left-stopped}
use Rattle.bus_arbiter.proofs.seats.Seat.run.Goals as goal

pub returns-in-Ok-Halted-clause-left : goal.returns-in-Ok-Halted-clause-left
returns-in-Ok-Halted-clause-left g c =
    let m = c.self.inside.machine in
    let n = c.run_core.new.machine in
    subst (λ (x : Core g.row.B.Denot). LeftAt x c.args.to (record { machine = n; halted = Some c.in-Ok-Halted.at }))
    c.self.view_is
    (left-halted (record { machine = m; halted = c.self.inside.halted }) c.args.to c.in-Ok-Halted.at n c.in-None.is
    c.in-Ok-Halted.ensures.object c.in-Ok-Halted.ensures.state
    (subst (λ (e : End). EndsAs (trace_from m.object m.state c.args.to) e) c.in-Ok-Halted.field-0-is
    c.in-Ok-Halted.ensures.end))

pub returns-in-Err-clause-way : goal.returns-in-Err-clause-way
returns-in-Err-clause-way g c =
    let n = c.run_core.new.machine in
    let cut = c.in-Err.ensures.cut in
    subst (λ (x : Core g.row.B.Denot). OnItsWay x c.args.to (record { machine = n; halted = c.self.inside.halted }))
    c.self.view_is
    (left-stopped (record { machine = c.self.inside.machine; halted = c.self.inside.halted }) c.args.to cut.0 n
    c.in-None.is cut.1 c.in-Err.ensures.object cut.2)
