use Rattle.std.proofs.Common.{Ok}
use Rattle.std.proofs.lemmas.Result.{IfErr-weaker, IfOk-weaker, err_from_is_err_and}
use Rattle.call_steps.specs.Prelude.{Asks, or_ends, WhichAssembly}
use Rattle.call_replies.specs.declared.replies.Verdict.TheVariants.{BadAssembly}
use Rattle.call_steps.proofs.Finding.{bytes-found, bytes-refused}
use Rattle.call_steps.proofs.reading.find_assembly.Goals as goal

pub returns-in_err-bytes-clause-stopped : goal.returns-in_err-bytes-clause-stopped
returns-in_err-bytes-clause-stopped g c =
    let passed = err_from_is_err_and c.from_residual.result c.from_residual.ensures.1 in
    rw (passed.1, passed.2)
    (λ next. c.in_err-bytes.ensures.stopped (λ bytes. Asks (WhichAssembly bytes) (or_ends BadAssembly next)))

pub returns-clause-found : goal.returns-clause-found
returns-clause-found g c =
    IfOk-weaker c.assembly_in.result _ _ (λ o found next.
    bytes-found WhichAssembly (λ b. or_ends BadAssembly next) (λ b. Ok o) c.deref.ensures.value
    c.in_ok-bytes.ensures.found found) c.assembly_in.ensures.found

pub returns-clause-stopped : goal.returns-clause-stopped
returns-clause-stopped g c =
    IfErr-weaker c.assembly_in.result _ _ (λ reply refused next.
    bytes-refused WhichAssembly (λ b. or_ends BadAssembly next) c.deref.ensures.value c.in_ok-bytes.ensures.found
    (refused next)) c.assembly_in.ensures.refused
