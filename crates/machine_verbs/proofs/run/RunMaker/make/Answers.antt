use Rattle.std.proofs.Common.{refl, subst, None, Some}
use Rattle.call_replies.specs.declared.replies.Verdict.TheVariants.{Spent}
use Rattle.machine_verbs.specs.declared.run.Ran.TheVariants.{Halted}
use Rattle.call_steps.specs.Prelude.{WhenItHalts}
use Rattle.machine_verbs.specs.Prelude.{RanTo, on_halt, runs_on}
use Rattle.call_steps.proofs.Reaching.{passed, passed-memory, to-write, with-answer, with-verdict}
use Rattle.machine_verbs.proofs.run.RunMaker.make.Goals as goal

pub returns-in_err-given-clause-stopped : goal.returns-in_err-given-clause-stopped
returns-in_err-given-clause-stopped g c =
    passed c.from_residual.result _ c.from_residual.ensures.1
    (c.in_err-given.ensures.stopped (runs_on c.args.words.output.now c.args.words.cycles))

pub returns-in_err-at-clause-stopped : goal.returns-in_err-at-clause-stopped
returns-in_err-at-clause-stopped g c =
    passed-memory c.from_residual-in_err-at.result c.from_residual-in_err-at.ensures.1
    (c.in_ok-given.ensures.found (runs_on c.args.words.output.now c.args.words.cycles))

pub returns-in-Halted-clause-made : goal.returns-in-Halted-clause-made
returns-in-Halted-clause-made g c =
    let o = c.in_ok-given.given.accepted in
    let inputs = c.in_ok-given.given.inputs in
    let n = c.args.words.cycles in
    let output = c.args.words.output.now in
    let ran : RanTo o inputs n (Halted c.in-Halted.at c.in-Halted.bytes) =
    subst (RanTo o inputs n) c.in-Halted.is c.in_ok-at.ensures in
    to-write
    (with-answer (WhenItHalts o inputs n) (on_halt o inputs output n) (Some c.in-Halted.at)
    (c.in_ok-given.ensures.found (runs_on output n)) ran.0) ran.1 refl

pub returns-clause-stopped : goal.returns-clause-stopped
returns-clause-stopped g c =
    let o = c.in_ok-given.given.accepted in
    let inputs = c.in_ok-given.given.inputs in
    let n = c.args.words.cycles in
    let output = c.args.words.output.now in
    with-verdict (Spent n)
    (with-answer (WhenItHalts o inputs n) (on_halt o inputs output n) None
    (c.in_ok-given.ensures.found (runs_on output n))
    (subst (RanTo o inputs n) c.in-Spent.is c.in_ok-at.ensures))
