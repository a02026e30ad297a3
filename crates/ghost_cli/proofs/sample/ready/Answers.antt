use Rattle.std.proofs.Common.{sym, subst}
use Rattle.std.proofs.lemmas.Result.{err_from_is_err_and}
use Rattle.lt_isa.specs.Prelude.{Parts}
use Rattle.src_tree.specs.Prelude.{source_of}
use Rattle.lt_isa.specs.declared.profiles.Profile.{Profile}
use Rattle.object_file.specs.Prelude.{spelling}
use Rattle.call_steps.specs.Prelude.{on_compiled, IsCompiledTo, EndsWorkWith, WhichCompiled}
use Rattle.call_replies.specs.Prelude.{said}
use Rattle.ghost_cli.specs.Prelude.{SampleIsReady}
use Rattle.call_laws.proofs.SampleMade.{compile-starved, check-starved, compiled-accepted}
use Rattle.ghost_cli.proofs.sample.ready.Goals as goal

pub returns-in_err-object-clause-starved : goal.returns-in_err-object-clause-starved
returns-in_err-object-clause-starved c =
    let p = err_from_is_err_and c.from_residual-in_err-object.result c.from_residual-in_err-object.ensures.1 in
    rw (p.1, p.2)
    (compile-starved c.args.fast c.args.items c.requires.1
    (source_of c.in_ok-program.program) c.in_ok-program.ensures.spells _
    (λ output. subst
    (λ (q : Profile). EndsWorkWith
    (WhichCompiled (source_of c.in_ok-program.program) (record { profile = q; fast = c.args.fast })) (on_compiled output)
    (said c.in_err-object.field-0.0)) c.windowed.ensures.value (c.in_err-object.ensures.refused output)))

pub returns-in_err-accepted-clause-starved : goal.returns-in_err-accepted-clause-starved
returns-in_err-accepted-clause-starved c =
    let p = err_from_is_err_and c.from_residual-in_err-accepted.result c.from_residual-in_err-accepted.ensures.1 in
    rw (p.1, p.2)
    (check-starved c.in_ok-object.object (compiled-accepted (source_of c.in_ok-program.program)
    (record { profile = c.windowed.result; fast = c.args.fast }) c.in_ok-object.object c.in_ok-object.ensures.in_range
    c.in_ok-object.ensures.compiled) _ c.in_err-accepted.ensures.refused)

pub returns-clause-ready : goal.returns-clause-ready
returns-clause-ready c =
    subst (λ (o : Parts). SampleIsReady c.args.fast c.args.items (source_of c.in_ok-program.program) o)
    (sym c.in_ok-accepted.ensures.same)
    (record {
      spells = c.in_ok-program.ensures.spells;
      in_range = c.in_ok-object.ensures.in_range;
      compiled = subst
          (λ (q : Profile). IsCompiledTo (source_of c.in_ok-program.program) (record { profile = q; fast = c.args.fast })
          (spelling c.in_ok-object.object))
          c.windowed.ensures.value c.in_ok-object.ensures.compiled;
    })
