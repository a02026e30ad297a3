use Rattle.std.proofs.Common.{rules, ◌≡◌, [], true, false, sym, subst}
use Rattle.std.proofs.lemmas.Result.{IfOk-weaker}
use Rattle.lt_isa.specs.Prelude.{State, Parts, start_state, trace_from}
use Rattle.processor.specs.Prelude.{run_shown}
use Rattle.processor.proofs.TellingPaths.{events_in-with_paths}
use Rattle.call_steps.specs.Prelude.{AreBehind, MayRun, ExplainsRest, IsShownInTrees, run_seen}
use Rattle.machine_verbs.specs.Prelude.{traces_on, TracedInTrees, PutsTrace, kept}
use Rattle.machine_verbs.proofs.TraceTexts.{traced-said}
use Rattle.machine_verbs.proofs.Shown.{is-shown, may-run, shows}
use Rattle.machine_verbs.proofs.trace.trace_given.Goals as goal

pub put_trace-requires-clause-banks : goal.put_trace-requires-clause-banks
put_trace-requires-clause-banks g c = search rules

pub put_trace-requires-clause-may_run : goal.put_trace-requires-clause-may_run
put_trace-requires-clause-may_run g c =
    let begun = c.in_ok-machine.ensures in
    let o = c.args.given.now.accepted in
    let inputs = c.args.given.now.inputs in
    subst (λ (p : Parts).
    MayRun p c.in_ok-machine.machine.state c.args.asked.cycles c.in_ok-machine.machine.orams) (sym begun.object)
    (subst (λ (s : State). MayRun o s c.args.asked.cycles c.in_ok-machine.machine.orams) (sym begun.state)
    (may-run o c.requires.in_range inputs c.requires.fits c.args.asked.cycles c.args.asked.seed
    c.in_ok-machine.machine.orams begun.count begun.orams))

pub returns-then-asked-clause-done : goal.returns-then-asked-clause-done
returns-then-asked-clause-done g c =
    let on : c.args.asked.recursive ≡ true = search rules in
    let o = c.args.given.now.accepted in
    let inputs = c.args.given.now.inputs in
    let n = c.args.asked.cycles in
    let seed = c.args.asked.seed in
    let paths = c.args.asked.paths in
    let before = g.O.Sink.seen c.args.out.now in
    let after = g.O.Sink.seen c.trace_in_trees.new.out in
    IfOk-weaker c.trace_in_trees.result (TracedInTrees before after o inputs n seed paths) _
    (λ status traced.
    subst (λ r. ExplainsRest before after status (traces_on paths r n seed o inputs)) (sym on)
    (traced-said before after status n seed paths true o inputs traced.told (λ levels. levels ≡ []) traced.events
    (λ off levels none. none)
    (λ on levels none. subst (λ l. IsShownInTrees o inputs n seed (run_seen traced.told l)) (sym none) traced.right)
    traced.put))
    c.trace_in_trees.ensures.traced

pub returns-clause-done : goal.returns-clause-done
returns-clause-done g c =
    let off : c.args.asked.recursive ≡ false = search rules in
    let begun = c.in_ok-machine.ensures in
    let o = c.args.given.now.accepted in
    let inputs = c.args.given.now.inputs in
    let machine = c.in_ok-machine.machine in
    let n = c.args.asked.cycles in
    let seed = c.args.asked.seed in
    let paths = c.args.asked.paths in
    let before = g.O.Sink.seen c.args.out.now in
    let after = g.O.Sink.seen c.put_trace.new.out in
    let PutFrom : Parts → State → Type 0 =
    λ p s. PutsTrace before after (trace_from p s n) (kept paths (run_shown shows p s machine.orams n))
    (AreBehind paths p s n machine.orams) c.put_trace.result in
    subst (λ r. ExplainsRest before after c.put_trace.result (traces_on paths r n seed o inputs)) (sym off)
    (traced-said before after c.put_trace.result n seed paths false o inputs
    (run_shown shows o (start_state o inputs) machine.orams n)
    (AreBehind paths o (start_state o inputs) n machine.orams) (events_in-with_paths _ _)
    (λ off levels are. subst (λ p. AreBehind p o (start_state o inputs) n machine.orams levels) off are)
    (λ on levels are.
    is-shown o c.requires.in_range inputs c.requires.fits n seed machine.orams begun.count begun.orams levels
    (subst (λ p. AreBehind p o (start_state o inputs) n machine.orams levels) on are))
    (subst (λ (p : Parts). PutFrom p (start_state o inputs)) begun.object
    (subst (λ (s : State). PutFrom machine.object s) begun.state c.put_trace.ensures)))
