use Rattle.std.proofs.Common.{Ok}
use Rattle.std.proofs.lemmas.Result.{IfErr-weaker, IfOk-weaker, err_from_is_err_and}
use Rattle.src_tree.specs.Prelude.{source_of}
use Rattle.call_steps.specs.Prelude.{Asks, or_ends, WhichSource}
use Rattle.call_replies.specs.declared.replies.Verdict.TheVariants.{BadSource}
use Rattle.call_steps.proofs.Finding.{bytes-found, bytes-refused}
use Rattle.call_steps.proofs.sources.find_source.Goals as goal

pub returns-in_err-bytes-clause-stopped : goal.returns-in_err-bytes-clause-stopped
returns-in_err-bytes-clause-stopped g c =
    let passed = err_from_is_err_and c.from_residual.result c.from_residual.ensures.1 in
    rw (passed.1, passed.2)
    (λ next. c.in_err-bytes.ensures.stopped (λ bytes. Asks (WhichSource c.args.procs bytes) (or_ends BadSource next)))

pub returns-clause-found : goal.returns-clause-found
returns-clause-found g c =
    IfOk-weaker c.source_in.result _ _ (λ p found next.
    bytes-found (WhichSource c.args.procs) (λ b. or_ends BadSource next) (λ b. Ok (source_of p)) c.deref.ensures.value
    c.in_ok-bytes.ensures.found found) c.source_in.ensures.found

pub returns-clause-stopped : goal.returns-clause-stopped
returns-clause-stopped g c =
    IfErr-weaker c.source_in.result _ _ (λ reply refused next.
    bytes-refused (WhichSource c.args.procs) (λ b. or_ends BadSource next) c.deref.ensures.value
    c.in_ok-bytes.ensures.found (refused next)) c.source_in.ensures.refused
