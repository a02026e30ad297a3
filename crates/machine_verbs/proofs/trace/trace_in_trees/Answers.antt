use Rattle.std.proofs.Common.{◌≡◌, [], subst}
use Rattle.lt_isa.specs.Prelude.{Parts, State, start_state, trace_from}
use Rattle.processor.specs.Prelude.{run_shown}
use Rattle.processor.proofs.TellingPaths.{events_in-with_paths}
use Rattle.machine_verbs.specs.Prelude.{PutsTrace, kept}
use Rattle.machine_verbs.proofs.ShownInTrees.{is-shown, shows}
use Rattle.machine_verbs.proofs.trace.trace_in_trees.Goals as goal

pub returns-clause-traced : goal.returns-clause-traced
returns-clause-traced g c =
    let begun = c.in_ok-machine.ensures in
    let o = c.args.accepted.now in
    let inputs = c.args.inputs.now in
    let machine = c.in_ok-machine.machine in
    let n = c.args.asked.cycles in
    let PutFrom : Parts → State → Type 0 =
    λ p s. PutsTrace (g.O.Sink.seen c.args.out.now) (g.O.Sink.seen c.put_lines.new.out) (trace_from p s n)
    (kept c.args.asked.paths (run_shown shows p s machine.orams n)) (λ levels. levels ≡ []) c.put_lines.result in
    record {
      told = run_shown shows o (start_state o inputs) machine.orams n;
      events = events_in-with_paths _ _;
      right = is-shown o c.requires.in_range inputs c.requires.fits n c.args.asked.seed machine.orams begun.count
          begun.orams;
      put = subst (λ (p : Parts). PutFrom p (start_state o inputs)) begun.object
          (subst (λ (s : State). PutFrom machine.object s) begun.state c.put_lines.ensures);
    }
