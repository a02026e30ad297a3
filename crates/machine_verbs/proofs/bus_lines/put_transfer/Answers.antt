use Rattle.std.proofs.Common.{rules, ◌≡◌, ◌++◌, ℕ, Err, subst}
use Rattle.std.specs.Prelude.{codes, decimal}
use Rattle.lt_isa.specs.Prelude.{observed_of}
use Rattle.run_data.specs.Prelude.{PutsText, event_line}
use Rattle.machine_verbs.proofs.BusWatches.{line-some}
use Rattle.machine_verbs.proofs.PutBehind.{puts-cut, puts-then}
use Rattle.machine_verbs.proofs.bus_lines.put_transfer.Goals as goal

pub returns-in-Err : goal.returns-in-Err
returns-in-Err g c =
    let is : c.from.result ≡ c.args.core = search rules in
    let before = g.O.Sink.seen c.args.out.now in
    let now = g.O.Sink.seen c.put_number_and.new.out in
    let line = event_line c.args.stamp (observed_of c.args.event.now) in
    subst (λ (n : ℕ). PutsText before.held now.held before.faults now.faults ((decimal n ++ codes " ") ++ line)
    (Err c.in-Err.error)) is
    (puts-cut before.held now.held before.faults now.faults (decimal c.from.result ++ codes " ") line c.in-Err.error
    c.in-Err.ensures)

pub returns : goal.returns
returns g c =
    let is : c.from.result ≡ c.args.core = search rules in
    let before = g.O.Sink.seen c.args.out.now in
    let middle = g.O.Sink.seen c.put_number_and.new.out in
    let now = g.O.Sink.seen c.put_event_line.new.out in
    let line = event_line c.args.stamp (observed_of c.args.event.now) in
    subst (λ (n : ℕ). PutsText before.held now.held before.faults now.faults ((decimal n ++ codes " ") ++ line)
    c.put_event_line.result) is
    (puts-then before.held middle.held now.held before.faults middle.faults now.faults
    (decimal c.from.result ++ codes " ") line c.put_event_line.result c.in-Ok.ensures
    (line-some c.args.stamp (observed_of c.args.event.now)) c.put_event_line.ensures)
