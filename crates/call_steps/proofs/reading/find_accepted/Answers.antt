use Rattle.std.proofs.lemmas.Result.{IfErr-weaker, err_from_is_err_and}
use Rattle.call_steps.specs.Prelude.{Asks, on_judged, WhetherAccepted}
use Rattle.call_steps.proofs.Finding.{accepted-found, accepted-refused}
use Rattle.call_steps.proofs.reading.find_accepted.Goals as goal

pub returns-in_err-object-clause-stopped : goal.returns-in_err-object-clause-stopped
returns-in_err-object-clause-stopped g c =
    let passed = err_from_is_err_and c.from_residual.result c.from_residual.ensures.1 in
    rw (passed.1, passed.2)
    (λ next. c.in_err-object.ensures.stopped (λ o. Asks (WhetherAccepted o) (on_judged (next o))))

pub returns-clause-found : goal.returns-clause-found
returns-clause-found g c =
    accepted-found c.checked.result c.in_ok-object.object c.in_ok-object.ensures.found c.checked.ensures.same
    c.checked.ensures.accepts

pub returns-clause-stopped : goal.returns-clause-stopped
returns-clause-stopped g c =
    IfErr-weaker c.checked.result _ _
    (λ reply. accepted-refused c.in_ok-object.object c.in_ok-object.ensures.found) c.checked.ensures.refused
