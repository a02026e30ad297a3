use Rattle.std.proofs.Common.{arith}
use Rattle.src_tree.specs.Prelude.{source_of}
use Rattle.resident_alloc.proofs.PlanSteps.{wants_all}
use Rattle.resident_alloc.proofs.wants.wants_of.Goals as goal

pub returns-clause-short : goal.returns-clause-short
returns-clause-short c =
    wants_all (source_of c.args.p.now) c.as_slice-decls.result.now c.loop-i.i c.loop-i.wants.items c.requires.within
    c.as_slice-decls.ensures.value (omega (arith, c.loop-i-test.false)) c.loop-i.invariant
