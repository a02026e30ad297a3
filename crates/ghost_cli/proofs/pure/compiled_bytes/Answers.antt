use Rattle.std.proofs.lemmas.Result.{IfErr-weaker, IfOk-weaker, err_from_is_err_and}
use Rattle.src_tree.specs.Prelude.{source_of}
use Rattle.call_laws.proofs.HeadlineVerbs.{compiled-program}
use Rattle.ghost_cli.proofs.PureCalls.{no-program, not-compiled}
use Rattle.ghost_cli.proofs.pure.compiled_bytes.Goals as goal

pub returns-in_err-program-clause-refused : goal.returns-in_err-program-clause-refused
returns-in_err-program-clause-refused c =
    let passed = err_from_is_err_and c.from_residual.result c.from_residual.ensures.1 in
    rw (passed.1, passed.2)
    (no-program c.args.procs c.args.text.now c.args.target.now _ c.in_err-program.ensures.refused)

pub returns-clause-compiled : goal.returns-clause-compiled
returns-clause-compiled c =
    IfOk-weaker c.object_bytes.result _ _
    (λ bytes. compiled-program c.args.procs c.args.text.now _ c.args.target.now bytes.items
    c.in_ok-program.ensures.found) c.object_bytes.ensures.compiled

pub returns-clause-refused : goal.returns-clause-refused
returns-clause-refused c =
    IfErr-weaker c.object_bytes.result _ _
    (λ reply. not-compiled c.args.procs c.args.text.now (source_of c.in_ok-program.program) c.args.target.now _
    c.in_ok-program.ensures.found) c.object_bytes.ensures.refused
