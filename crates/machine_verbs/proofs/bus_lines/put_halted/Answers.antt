use Rattle.std.proofs.Common.{arith, ◌++◌}
use Rattle.std.specs.Prelude.{codes, decimal}
use Rattle.machine_verbs.proofs.PutBehind.{puts-cut, puts-then}
use Rattle.machine_verbs.proofs.bus_lines.put_halted.Goals as goal

pub returns-in-Err : goal.returns-in-Err
returns-in-Err g c = puts-cut _ _ _ _ (codes " halted " ++ decimal c.args.at) (codes "\n") _ c.in-Err.ensures

pub returns : goal.returns
returns g c =
    puts-then _ (g.O.Sink.seen c.put_and_number.new.out).held _ _ (g.O.Sink.seen c.put_and_number.new.out).faults _
    (codes " halted " ++ decimal c.args.at) (codes "\n") _ c.in-Ok.ensures (omega arith) c.put_bytes.ensures
