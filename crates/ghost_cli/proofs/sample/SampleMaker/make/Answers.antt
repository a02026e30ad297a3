use Rattle.std.proofs.Common.{ap, subst, None, Some}
use Rattle.lt_isa.specs.Prelude.{wants_of}
use Rattle.call_replies.specs.declared.replies.Done.TheVariants.{Sampled}
use Rattle.call_replies.specs.declared.replies.Verdict.TheVariants.{Spent}
use Rattle.call_steps.specs.Prelude.{sample_cycles, sample_inputs, WhatIsMade, WhenItHalts}
use Rattle.call_laws.specs.Prelude.{on_sampled, samples_on}
use Rattle.ghost_cli.specs.Prelude.{SampleCameTo}
use Rattle.call_steps.proofs.Reaching.{not-begun, out-of-memory, passed, to-write, with-answer, with-verdict}
use Rattle.ghost_cli.proofs.sample.SampleMaker.make.Goals as goal

pub returns-in_err-file-clause-stopped : goal.returns-in_err-file-clause-stopped
returns-in_err-file-clause-stopped g c =
    passed c.from_residual.result _ c.from_residual.ensures.1
    (out-of-memory not-begun c.in_err-file.ensures.starved)

pub returns-in-Some-clause-made : goal.returns-in-Some-clause-made
returns-in-Some-clause-made g c =
    let n = c.args.words.items in
    let output = c.args.words.output.now in
    let came = subst (SampleCameTo c.args.words.fast n) c.in-Some.is c.in_ok-file.ensures.done in
    let o = came.made.object in
    to-write
    (with-answer (WhenItHalts o (sample_inputs (wants_of o)) sample_cycles) (on_sampled n output came.made)
    (Some came.at)
    (with-answer (WhatIsMade c.args.words.fast n) (samples_on n output) came.made not-begun came.is) came.halts)
    came.spelled (ap Sampled came.figured)

pub returns-in-None-clause-stopped : goal.returns-in-None-clause-stopped
returns-in-None-clause-stopped g c =
    let n = c.args.words.items in
    let output = c.args.words.output.now in
    let spent = subst (SampleCameTo c.args.words.fast n) c.in-None.is c.in_ok-file.ensures.done in
    let o = spent.0.object in
    with-verdict (Spent sample_cycles)
    (with-answer (WhenItHalts o (sample_inputs (wants_of o)) sample_cycles) (on_sampled n output spent.0) None
    (with-answer (WhatIsMade c.args.words.fast n) (samples_on n output) spent.0 not-begun spent.1) spent.2)
