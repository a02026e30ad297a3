use Rattle.std.proofs.Common.{rules, ◌≡◌, ◌≢◌, [], false, ap, subst}
use Rattle.gr_outside.specs.Prelude.{SinkSeen}
use Rattle.lt_isa.specs.Prelude.{Parts, State, start_state, trace_from}
use Rattle.processor.specs.Prelude.{run_shown}
use Rattle.processor.proofs.TellingPaths.{events_in-with_paths}
use Rattle.machine_verbs.specs.Prelude.{PutsTrace, kept}
use Rattle.machine_verbs.proofs.Shown.{shows}
use Rattle.machine_verbs.proofs.TraceTexts.{traced-text}
use Rattle.machine_verbs.proofs.trace.trace_text.Goals as goal

pub returns : goal.returns
returns c =
    let begun = c.in_ok-machine.ensures in
    let o = c.args.accepted.now in
    let inputs = c.args.inputs.now in
    let machine = c.in_ok-machine.machine in
    let n = c.args.cycles in
    let status = c.put_lines-status.result in
    let whole : status ≢ 4 = search rules in
    let PutFrom : Parts → State → Type 0 =
    λ p s. PutsTrace c.new-out.result c.put_lines-status.new.out (trace_from p s n)
    (kept false (run_shown shows p s machine.orams n)) (λ levels. levels ≡ []) status in
    traced-text c.new-out.result c.put_lines-status.new.out o inputs n
    (run_shown shows o (start_state o inputs) machine.orams n) status
    (ap (λ (s : SinkSeen). s.held) c.new-out.ensures) (events_in-with_paths _ _)
    (subst (λ (p : Parts). PutFrom p (start_state o inputs)) begun.object
    (subst (λ (s : State). PutFrom machine.object s) begun.state c.put_lines-status.ensures)) whole
    c.into_bytes.result.items c.into_bytes.ensures
