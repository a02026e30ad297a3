use Rattle.std.proofs.Common.{Option, refl, subst}
use Rattle.object_file.specs.Prelude.{spelling}
use Rattle.src_tree.specs.Prelude.{source_of}
use Rattle.ghost_cli.specs.Prelude.{RanCounted}
use Rattle.ghost_cli.specs.declared.sample.CountedRun.{CountedRun}
use Rattle.ghost_cli.proofs.Samples.{made_of, ready-made}
use Rattle.ghost_cli.proofs.sample.made.Goals as goal

pub returns-in_default-clause-done : goal.returns-in_default-clause-done
returns-in_default-clause-done c =
    let o = c.in_ok-ready.ready.accepted in
    let p = source_of c.in_ok-ready.ready.program in (
      made_of p (spelling o) o,
      ready-made c.args.fast c.args.items p o (spelling o) c.in_ok-ready.ensures.ready refl,
      subst (λ (run : Option CountedRun). RanCounted o run) c.in_default.is c.in_ok-run.ensures,
    )
