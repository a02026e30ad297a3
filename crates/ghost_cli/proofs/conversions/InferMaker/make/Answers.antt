use Rattle.std.proofs.Common.{ap, Ok}
use Rattle.call_replies.specs.declared.replies.Done.TheVariants.{Inferred}
use Rattle.call_laws.specs.Prelude.{infers_to, on_inferred}
use Rattle.call_steps.specs.Prelude.{WhatIsInferred}
use Rattle.call_steps.proofs.Reaching.{passed, passed-memory, to-write, with-answer, with-refusal}
use Rattle.ghost_cli.proofs.conversions.InferMaker.make.Goals as goal

pub returns-in_err-object-clause-stopped : goal.returns-in_err-object-clause-stopped
returns-in_err-object-clause-stopped g c =
    passed c.from_residual.result _ c.from_residual.ensures.1
    (c.in_err-object.ensures.stopped (infers_to c.args.words.written.now))

pub returns-in_err-found-clause-stopped : goal.returns-in_err-found-clause-stopped
returns-in_err-found-clause-stopped g c =
    let output = c.args.words.written.now in
    passed c.from_residual-in_err-found.result _ c.from_residual-in_err-found.ensures.1
    (with-refusal (WhatIsInferred c.in_ok-object.object) (on_inferred output)
    (c.in_ok-object.ensures.found (infers_to output)) (c.in_err-found.ensures.refused output))

pub returns-in_err-bytes-clause-stopped : goal.returns-in_err-bytes-clause-stopped
returns-in_err-bytes-clause-stopped g c =
    passed-memory c.from_residual-in_err-bytes.result c.from_residual-in_err-bytes.ensures.1
    (c.in_ok-object.ensures.found (infers_to c.args.words.written.now))

pub returns-clause-made : goal.returns-clause-made
returns-clause-made g c =
    let output = c.args.words.written.now in
    to-write
    (with-answer (WhatIsInferred c.in_ok-object.object) (on_inferred output) (Ok c.in_ok-found.found)
    (c.in_ok-object.ensures.found (infers_to output))
    (record { in_range = c.note_count-count.ensures.in_range; inferred = c.in_ok-found.ensures.found }))
    c.in_ok-bytes.ensures.spelled (ap Inferred c.note_count-count.ensures.count)
