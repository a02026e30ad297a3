use Rattle.std.proofs.Common.{Ok}
use Rattle.src_tree.specs.Prelude.{source_of}
use Rattle.call_steps.specs.Prelude.{compiles_to, on_compiled, WhichCompiled}
use Rattle.call_steps.proofs.Reaching.{passed, with-answer, with-refusal}
use Rattle.ghost_cli.proofs.compile.CompileMaker.make.Goals as goal

pub returns-in_err-program-clause-stopped : goal.returns-in_err-program-clause-stopped
returns-in_err-program-clause-stopped g c =
    passed c.from_residual.result _ c.from_residual.ensures.1
    (c.in_err-program.ensures.stopped (compiles_to c.args.words.output.now c.args.words.target))

pub returns-in_err-bytes-clause-stopped : goal.returns-in_err-bytes-clause-stopped
returns-in_err-bytes-clause-stopped g c =
    let output = c.args.words.output.now in
    let target = c.args.words.target in
    passed c.from_residual-in_err-bytes.result _ c.from_residual-in_err-bytes.ensures.1
    (with-refusal (WhichCompiled (source_of c.in_ok-program.program) target) (on_compiled output)
    (c.in_ok-program.ensures.found (compiles_to output target)) (c.in_err-bytes.ensures.refused output))

pub returns-clause-made : goal.returns-clause-made
returns-clause-made g c =
    let output = c.args.words.output.now in
    let target = c.args.words.target in
    with-answer (WhichCompiled (source_of c.in_ok-program.program) target) (on_compiled output)
    (Ok c.in_ok-bytes.bytes.items) (c.in_ok-program.ensures.found (compiles_to output target))
    c.in_ok-bytes.ensures.compiled
