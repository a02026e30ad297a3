use Rattle.std.proofs.Common.{true, false}
use Rattle.src_tree.specs.Prelude.{source_of}
use Rattle.compile_step.proofs.Compiling.{compiled-for}
use Rattle.compile_step.proofs.compiled_object.compiled.Goals as goal

pub returns-then-target-clause-compiled : goal.returns-then-target-clause-compiled
returns-then-target-clause-compiled c =
    let made = c.compile_fast.ensures in
    compiled-for (source_of c.args.program.now) c.args.target.now c.usual-latencies.result c.usual-latencies.ensures true
    c.if-target.true c.compile_fast.result made.fits made.in_range made.accepted made.implements made.laid_out
    made.machine made.stores made.size

pub returns-else-target-clause-compiled : goal.returns-else-target-clause-compiled
returns-else-target-clause-compiled c =
    let made = c.compile.ensures in
    compiled-for (source_of c.args.program.now) c.args.target.now c.usual-latencies.result c.usual-latencies.ensures false
    c.if-target.false c.compile.result made.fits made.in_range made.accepted made.implements made.laid_out made.machine
    made.stores made.size
