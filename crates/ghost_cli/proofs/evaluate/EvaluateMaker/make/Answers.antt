use Rattle.std.proofs.Common.{refl, ◌∙◌, subst, None, Some}
use Rattle.src_tree.specs.Prelude.{source_of}
use Rattle.flow_types.specs.Prelude.{declared_wants}
use Rattle.call_replies.specs.declared.replies.Verdict.TheVariants.{Spent}
use Rattle.ghost_cli.specs.declared.evaluation.Left.TheVariants.{Done}
use Rattle.call_laws.specs.Prelude.{evaluates_on, on_left}
use Rattle.ghost_cli.specs.Prelude.{LeavesText}
use Rattle.call_steps.specs.Prelude.{WhatIsLeft, with_variables}
use Rattle.ghost_cli.proofs.Evaluating.{inputs-reached, inputs-stopped}
use Rattle.call_steps.proofs.Reaching.{passed, passed-memory, to-write, with-answer, with-verdict}
use Rattle.ghost_cli.proofs.evaluate.EvaluateMaker.make.Goals as goal

pub returns-in_err-program-clause-stopped : goal.returns-in_err-program-clause-stopped
returns-in_err-program-clause-stopped g c =
    let words = c.args.words in
    passed c.from_residual.result _ c.from_residual.ensures.1
    (c.in_err-program.ensures.stopped (λ p.
    with_variables (declared_wants p.decls) words.input.now (evaluates_on words.output.now words.turns p)))

pub returns-in_err-wants-clause-stopped : goal.returns-in_err-wants-clause-stopped
returns-in_err-wants-clause-stopped g c =
    let words = c.args.words in
    passed-memory c.from_residual-in_err-wants.result c.from_residual-in_err-wants.ensures.1
    (c.in_ok-program.ensures.found (λ p.
    with_variables (declared_wants p.decls) words.input.now (evaluates_on words.output.now words.turns p)))

pub returns-in_err-inputs-clause-stopped : goal.returns-in_err-inputs-clause-stopped
returns-in_err-inputs-clause-stopped g c =
    let words = c.args.words in
    passed c.from_residual-in_err-inputs.result _ c.from_residual-in_err-inputs.ensures.1
    (inputs-stopped words.input.now (evaluates_on words.output.now words.turns (source_of c.in_ok-program.program))
    (c.in_ok-program.ensures.found (λ p.
    with_variables (declared_wants p.decls) words.input.now (evaluates_on words.output.now words.turns p)))
    (c.deref.ensures.value ∙ c.in_ok-wants.ensures.wants) c.in_err-inputs.ensures.stopped)

pub returns-in_err-bytes-clause-stopped : goal.returns-in_err-bytes-clause-stopped
returns-in_err-bytes-clause-stopped g c =
    let words = c.args.words in
    passed-memory c.from_residual-in_err-bytes.result c.from_residual-in_err-bytes.ensures.1
    (inputs-reached words.input.now (evaluates_on words.output.now words.turns (source_of c.in_ok-program.program))
    (c.in_ok-program.ensures.found (λ p.
    with_variables (declared_wants p.decls) words.input.now (evaluates_on words.output.now words.turns p)))
    (c.deref.ensures.value ∙ c.in_ok-wants.ensures.wants) c.in_ok-inputs.inputs c.in_ok-inputs.ensures.found)

pub returns-in-Done-clause-made : goal.returns-in-Done-clause-made
returns-in-Done-clause-made g c =
    let words = c.args.words in
    let p = source_of c.in_ok-program.program in
    let inputs = c.in_ok-inputs.inputs in
    let left : LeavesText p inputs words.turns (Done c.in-Done.bytes) =
    subst (LeavesText p inputs words.turns) c.in-Done.is c.in_ok-bytes.ensures in
    to-write
    (with-answer (WhatIsLeft p inputs words.turns) (on_left p words.output.now words.turns) (Some left.0)
    (inputs-reached words.input.now (evaluates_on words.output.now words.turns p)
    (c.in_ok-program.ensures.found (λ p.
    with_variables (declared_wants p.decls) words.input.now (evaluates_on words.output.now words.turns p)))
    (c.deref.ensures.value ∙ c.in_ok-wants.ensures.wants) inputs c.in_ok-inputs.ensures.found)
    left.1)
    left.2 refl

pub returns-clause-stopped : goal.returns-clause-stopped
returns-clause-stopped g c =
    let words = c.args.words in
    let p = source_of c.in_ok-program.program in
    let inputs = c.in_ok-inputs.inputs in
    with-verdict (Spent words.turns)
    (with-answer (WhatIsLeft p inputs words.turns) (on_left p words.output.now words.turns) None
    (inputs-reached words.input.now (evaluates_on words.output.now words.turns p)
    (c.in_ok-program.ensures.found (λ p.
    with_variables (declared_wants p.decls) words.input.now (evaluates_on words.output.now words.turns p)))
    (c.deref.ensures.value ∙ c.in_ok-wants.ensures.wants) inputs c.in_ok-inputs.ensures.found)
    (subst (LeavesText p inputs words.turns) c.in-Spent.is c.in_ok-bytes.ensures))
