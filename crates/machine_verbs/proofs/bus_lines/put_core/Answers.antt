use Rattle.std.proofs.Common.{rules, ◌≡◌, ◌++◌, ℕ, Err, subst}
use Rattle.std.specs.Prelude.{codes, decimal}
use Rattle.run_data.specs.Prelude.{PutsText}
use Rattle.call_steps.specs.Prelude.{halt_text}
use Rattle.machine_verbs.proofs.BusWatches.{halt-some}
use Rattle.machine_verbs.proofs.PutBehind.{puts-cut, puts-then}
use Rattle.machine_verbs.proofs.bus_lines.put_core.Goals as goal

pub returns-in-Err : goal.returns-in-Err
returns-in-Err g c =
    let is : c.from.result ≡ c.args.core = search rules in
    let before = g.O.Sink.seen c.args.out.now in
    let now = g.O.Sink.seen c.put_and_number.new.out in
    subst (λ (n : ℕ). PutsText before.held now.held before.faults now.faults
    ((codes "core " ++ decimal n) ++ halt_text c.args.halt) (Err c.in-Err.error)) is
    (puts-cut before.held now.held before.faults now.faults (codes "core " ++ decimal c.from.result)
    (halt_text c.args.halt) c.in-Err.error c.in-Err.ensures)

pub returns : goal.returns
returns g c =
    let is : c.from.result ≡ c.args.core = search rules in
    let before = g.O.Sink.seen c.args.out.now in
    let middle = g.O.Sink.seen c.put_and_number.new.out in
    let now = g.O.Sink.seen c.put_halt.new.out in
    subst (λ (n : ℕ). PutsText before.held now.held before.faults now.faults
    ((codes "core " ++ decimal n) ++ halt_text c.args.halt) c.put_halt.result) is
    (puts-then before.held middle.held now.held before.faults middle.faults now.faults
    (codes "core " ++ decimal c.from.result) (halt_text c.args.halt) c.put_halt.result c.in-Ok.ensures
    (halt-some c.args.halt) c.put_halt.ensures)
