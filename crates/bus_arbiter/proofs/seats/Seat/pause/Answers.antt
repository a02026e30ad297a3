use Rattle.std.proofs.Common.{◌≡◌, [], Contains, min, sym, subst}
use Rattle.bus_arbiter.specs.Prelude.{Core, LeftAt, shows_to}
use Rattle.bus_arbiter.proofs.Pausing.{halted-late, halted-left, halted-quiet, paused-late, paused-left, paused-quiet}
use Rattle.bus_arbiter.proofs.seats.Seat.pause.Goals as goal

pub returns-in-None-clause-left : goal.returns-in-None-clause-left
returns-in-None-clause-left g c =
    let n = c.run_to_access.new.self in
    let to = min c.run_to_access.result c.args.cycles in
    subst (λ (x : Core g.row.B.Denot). LeftAt x to (record { machine = n; halted = c.self.inside.halted }))
    c.self.view_is
    (paused-left (record { machine = c.self.inside.machine; halted = c.self.inside.halted }) n c.args.cycles
    c.run_to_access.result c.in-None.is c.run_to_access.ensures.object c.run_to_access.ensures.paused)

pub returns-in-None-clause-quiet : goal.returns-in-None-clause-quiet
returns-in-None-clause-quiet g c = λ core.
    let n = c.run_to_access.new.self in
    let to = min c.run_to_access.result c.args.cycles in
    subst (λ (x : Core g.row.B.Denot). shows_to core x to ≡ []) c.self.view_is
    (paused-quiet (record { machine = c.self.inside.machine; halted = c.self.inside.halted }) n c.args.cycles
    c.run_to_access.result c.in-None.is c.run_to_access.ensures.object c.run_to_access.ensures.paused core)

pub returns-in-None-clause-late : goal.returns-in-None-clause-late
returns-in-None-clause-late g c =
    paused-late (record { machine = c.self.inside.machine; halted = c.self.inside.halted }) c.run_to_access.new.self
    c.args.cycles c.run_to_access.result c.in-None.is c.run_to_access.ensures.object c.run_to_access.ensures.paused
    c.run_to_access.ensures.in_range c.run_to_access.ensures.shaped

pub returns-in-Some-clause-left : goal.returns-in-Some-clause-left
returns-in-Some-clause-left g c =
    let to = min c.from.result c.args.cycles in
    subst (λ (x : Core g.row.B.Denot). LeftAt x to x) c.self.view_is
    (halted-left (record { machine = c.self.inside.machine; halted = c.self.inside.halted }) _ to c.in-Some.is)

pub returns-in-Some-clause-quiet : goal.returns-in-Some-clause-quiet
returns-in-Some-clause-quiet g c = λ core.
    let to = min c.from.result c.args.cycles in
    subst (λ (x : Core g.row.B.Denot). shows_to core x to ≡ []) c.self.view_is
    (halted-quiet (record { machine = c.self.inside.machine; halted = c.self.inside.halted }) _ to c.in-Some.is core)

pub returns-in-Some-clause-late : goal.returns-in-Some-clause-late
returns-in-Some-clause-late g c = λ core t found.
    halted-late (record { machine = c.self.inside.machine; halted = c.self.inside.halted }) _ c.args.cycles
    c.from.result c.in-Some.is core t
    (subst (λ (x : Core g.row.B.Denot). Contains (shows_to core x c.args.cycles) t) (sym c.self.view_is) found)
