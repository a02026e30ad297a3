use Rattle.std.proofs.lemmas.Result.{err_from_is_err_and}
use Rattle.call_steps.specs.Prelude.{with_inputs}
use Rattle.call_steps.proofs.Reaching.{then-reached, then-stopped}
use Rattle.call_steps.proofs.given.find_given.Goals as goal

pub returns-in_err-accepted-clause-stopped : goal.returns-in_err-accepted-clause-stopped
returns-in_err-accepted-clause-stopped g c =
    let passed = err_from_is_err_and c.from_residual.result c.from_residual.ensures.1 in
    rw (passed.1, passed.2)
    (λ next. c.in_err-accepted.ensures.stopped (λ o. with_inputs o c.args.input.now (next o)))

pub returns-in_err-inputs-clause-stopped : goal.returns-in_err-inputs-clause-stopped
returns-in_err-inputs-clause-stopped g c =
    let passed = err_from_is_err_and c.from_residual-in_err-inputs.result c.from_residual-in_err-inputs.ensures.1 in
    rw (passed.1, passed.2) (λ next.
    then-stopped (c.in_ok-accepted.ensures.found (λ o. with_inputs o c.args.input.now (next o)))
    (c.in_err-inputs.ensures.stopped (next c.in_ok-accepted.accepted)))

pub returns-clause-found : goal.returns-clause-found
returns-clause-found g c next =
    then-reached (c.in_ok-accepted.ensures.found (λ o. with_inputs o c.args.input.now (next o)))
    (c.in_ok-inputs.ensures.found (next c.in_ok-accepted.accepted))
