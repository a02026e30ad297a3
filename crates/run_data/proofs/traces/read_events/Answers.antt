use Rattle.std.proofs.Common.{arith, length-append, ap, length, ◌∷◌, []}
use Rattle.run_data.proofs.TraceWhole.{read-more}
use Rattle.run_data.proofs.traces.read_events.Goals as goal

pub loop-line-preserved : goal.loop-line-preserved
loop-line-preserved c =
    let found = rw c.in-Some.is at c.in_ok-line.ensures in
    let before = rw found.0 at c.loop-line.invariant.read in
    record {
      read = read-more c.args.size c.args.lines.now c.loop-line.line-index _ c.loop-line.found.items
          c.push.new.self.items c.in-Some.line c.loop-line.least c.from-least.result c.is_halt-halted.result
          c.loop-line-test.true before found.1 found.2 found.3
          c.in_ok-push.ensures.items c.is_halt-halted.ensures c.from-least.ensures;
      count = omega (
        arith,
        ap length c.in_ok-push.ensures.items,
        length-append c.loop-line.found.items (c.in-Some.line ∷ []),
        c.loop-line.invariant.count,
      );
    }
