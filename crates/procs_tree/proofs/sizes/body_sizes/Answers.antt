use Rattle.std.proofs.Common.{map, length, sym, subst, ap, ◌∙◌, arith}
use Rattle.procs_tree.specs.Prelude.{AreSizes, procedure_of}
use Rattle.procs_tree.proofs.Measured.{one_body_measured}
use Rattle.procs_tree.proofs.sizes.body_sizes.Goals as goal

pub body_size-size-requires-clause-sizes : goal.body_size-size-requires-clause-sizes
body_size-size-requires-clause-sizes c =
    subst (AreSizes (map procedure_of c.args.procs.now)) (sym c.as_slice.ensures.value) c.loop-i.invariant.1

pub body_size-size-requires-clause-all : goal.body_size-size-requires-clause-all
body_size-size-requires-clause-all c = ap length c.as_slice.ensures.value ∙ c.loop-i.invariant.0

pub loop-i-preserved : goal.loop-i-preserved
loop-i-preserved c =
    let long = c.loop-i.invariant.0 in
    let more = c.in_ok-push.ensures.len in (
      omega (long, more, arith),
      subst (AreSizes (map procedure_of c.args.procs.now)) (sym c.in_ok-push.ensures.items)
          (one_body_measured c.args.procs.now c.loop-i.sizes.items c.index-procs-i.result c.loop-i.i
          c.body_size-size.result long c.loop-i-test.true c.index-procs-i.is c.loop-i.invariant.1
          c.body_size-size.ensures),
    )
