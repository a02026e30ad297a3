use Rattle.std.proofs.Common.{List, map, length, sym, subst, ap, ◌∙◌, arith}
use Rattle.procs_pruning.specs.declared.needed.Body.{Body}
use Rattle.procs_tree.specs.Prelude.{procedure_of}
use Rattle.procs_pruning.specs.Prelude.{ArePruned, bodies_of}
use Rattle.procs_pruning.proofs.Pruning.{one_live_more}
use Rattle.procs_pruning.proofs.live.live_bodies.Goals as goal

pub live_body-requires-clause-bodies : goal.live_body-requires-clause-bodies
live_body-requires-clause-bodies c =
    subst (λ (bs : List Body). ArePruned (map procedure_of c.args.procs.now) (bodies_of bs)) (sym c.as_slice.ensures.value)
    c.loop-i.invariant.1

pub live_body-requires-clause-all : goal.live_body-requires-clause-all
live_body-requires-clause-all c = ap (λ (bs : List Body). length bs) c.as_slice.ensures.value ∙ c.loop-i.invariant.0

pub loop-i-preserved : goal.loop-i-preserved
loop-i-preserved c =
    let long = c.loop-i.invariant.0 in
    let more = c.in_ok-add_body.ensures.len in (
      omega (long, more, arith),
      subst (λ (bs : List Body). ArePruned (map procedure_of c.args.procs.now) (bodies_of bs))
          (sym c.in_ok-add_body.ensures.items)
          (one_live_more c.args.procs.now c.loop-i.bodies.items c.index-procs-i.result c.loop-i.i c.in_ok-left.left long
          c.loop-i-test.true c.index-procs-i.is c.loop-i.invariant.1 c.in_ok-left.ensures),
    )
