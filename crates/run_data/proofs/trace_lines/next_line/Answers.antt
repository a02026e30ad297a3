use Rattle.std.proofs.Common.{arith}
use Rattle.run_data.proofs.TraceReading.{too_low}
use Rattle.run_data.proofs.trace_lines.next_line.Goals as goal

pub returns-then-from-least : goal.returns-then-from-least
returns-then-from-least c = λ going s fits high.
    let found = rw c.in-Some.is at c.in_ok-line.ensures in
    too_low c.args.size c.args.bytes.now c.in-Some.line c.args.least found.0 found.1 (omega arith) s fits high
