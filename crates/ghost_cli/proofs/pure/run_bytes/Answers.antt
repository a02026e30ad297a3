use Rattle.std.proofs.lemmas.Result.{err_from_is_err_and}
use Rattle.ghost_cli.specs.Prelude.{NotRunnable}
use Rattle.ghost_cli.proofs.PureCalls.{no-inputs}
use Rattle.ghost_cli.proofs.pure.run_bytes.Goals as goal

pub returns-in_err-accepted-clause-refused : goal.returns-in_err-accepted-clause-refused
returns-in_err-accepted-clause-refused c =
    let passed = err_from_is_err_and c.from_residual.result c.from_residual.ensures.1 in
    rw (passed.1, passed.2) (NotRunnable c.in_err-accepted.ensures.refused)

pub returns-in_err-inputs-clause-refused : goal.returns-in_err-inputs-clause-refused
returns-in_err-inputs-clause-refused c =
    let passed =
    err_from_is_err_and c.from_residual-in_err-inputs.result c.from_residual-in_err-inputs.ensures.1 in
    rw (passed.1, passed.2)
    (no-inputs c.args.object.now c.args.input.now c.in_ok-accepted.accepted _ c.in_ok-accepted.ensures.spelled
    c.in_err-inputs.ensures.refused)
