use Rattle.std.proofs.Common.{ap, subst}
use Rattle.std.proofs.lemmas.Result.{err_from_is_err_and}
use Rattle.machine_verbs.specs.Prelude.{Read, AreRead}
use Rattle.machine_verbs.proofs.Pairing.{core-found, core-off, core-unfound, core-unkept, core-unread, one-read, read-is}
use Rattle.machine_verbs.proofs.bus.read_core.Goals as goal

pub returns-in_err-accepted-clause-stopped : goal.returns-in_err-accepted-clause-stopped
returns-in_err-accepted-clause-stopped g c =
    let passed = err_from_is_err_and c.from_residual.result c.from_residual.ensures.1 in
    rw (passed.1, passed.2) (core-unfound c.pair.view_is c.args.cores.now c.in_err-accepted.ensures.stopped)

pub returns-in-Err-clause-stopped : goal.returns-in-Err-clause-stopped
returns-in-Err-clause-stopped g c =
    core-off c.pair.view_is c.args.cores.now c.in_ok-accepted.accepted c.in_ok-accepted.ensures.found
    (ap (λ (r : Read). r.plan) c.cores.view_is) c.len-core.ensures.plan c.in_ok-accepted.ensures.in_range
    c.in-Err.cause c.len-core.ensures.cores c.off_bus.ensures c.in-Err.ensures.refused

pub returns-in_err-inputs-clause-stopped : goal.returns-in_err-inputs-clause-stopped
returns-in_err-inputs-clause-stopped g c =
    let passed = err_from_is_err_and c.from_residual-in_err-inputs.result c.from_residual-in_err-inputs.ensures.1 in
    rw (passed.1, passed.2)
    (core-unread c.pair.view_is c.args.cores.now c.in_ok-accepted.accepted c.in_ok-accepted.ensures.found
    (ap (λ (r : Read). r.plan) c.cores.view_is) c.len-core.ensures.plan c.in_ok-accepted.ensures.in_range
    c.in-Ok.ensures.fits c.in_err-inputs.ensures.stopped)

pub returns-in_err-push-clause-stopped : goal.returns-in_err-push-clause-stopped
returns-in_err-push-clause-stopped g c =
    let passed = err_from_is_err_and c.from_residual-in_err-push.result c.from_residual-in_err-push.ensures.1 in
    rw (passed.1, passed.2)
    (core-unkept c.pair.view_is c.args.cores.now c.in_ok-accepted.accepted c.in_ok-accepted.ensures.found
    (ap (λ (r : Read). r.plan) c.cores.view_is) c.len-core.ensures.plan c.in_ok-accepted.ensures.in_range
    c.in-Ok.ensures.fits c.in_ok-inputs.inputs c.in_ok-inputs.ensures.found)

pub returns-in_err-push-2-clause-stopped : goal.returns-in_err-push-2-clause-stopped
returns-in_err-push-2-clause-stopped g c =
    let passed = err_from_is_err_and c.from_residual-in_err-push-2.result c.from_residual-in_err-push-2.ensures.1 in
    rw (passed.1, passed.2)
    (core-unkept c.pair.view_is c.args.cores.now c.in_ok-accepted.accepted c.in_ok-accepted.ensures.found
    (ap (λ (r : Read). r.plan) c.cores.view_is) c.len-core.ensures.plan c.in_ok-accepted.ensures.in_range
    c.in-Ok.ensures.fits c.in_ok-inputs.inputs c.in_ok-inputs.ensures.found)

pub returns-clause-read : goal.returns-clause-read
returns-clause-read g c =
    subst AreRead
    (read-is c.in_ok-accepted.accepted c.in_ok-inputs.inputs c.cores.view_is c.in-Ok.ensures.added
    c.in_ok-push.ensures.items c.in_ok-push-2.ensures.items)
    (one-read c.args.cores.now c.in_ok-accepted.accepted c.in_ok-inputs.inputs c.requires.read
    c.in_ok-accepted.ensures.in_range c.in_ok-inputs.ensures.fits)

pub returns-clause-found : goal.returns-clause-found
returns-clause-found g c =
    core-found c.pair.view_is c.args.cores.now c.in_ok-accepted.accepted c.in_ok-accepted.ensures.found
    (ap (λ (r : Read). r.plan) c.cores.view_is) c.len-core.ensures.plan c.in_ok-accepted.ensures.in_range
    c.in-Ok.ensures.fits c.in_ok-inputs.inputs c.in_ok-inputs.ensures.found
    (read-is c.in_ok-accepted.accepted c.in_ok-inputs.inputs c.cores.view_is c.in-Ok.ensures.added
    c.in_ok-push.ensures.items c.in_ok-push-2.ensures.items)
