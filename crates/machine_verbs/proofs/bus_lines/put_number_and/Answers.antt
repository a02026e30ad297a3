use Rattle.std.proofs.Common.{arith}
use Rattle.std.specs.Prelude.{decimal}
use Rattle.machine_verbs.proofs.PutBehind.{puts-cut, puts-then}
use Rattle.machine_verbs.proofs.bus_lines.put_number_and.Goals as goal

pub returns-in-Err : goal.returns-in-Err
returns-in-Err g c = puts-cut _ _ _ _ (decimal c.args.number) c.args.bytes.now _ c.in-Err.ensures

pub returns : goal.returns
returns g c =
    puts-then _ (g.O.Sink.seen c.put_number.new.out).held _ _ (g.O.Sink.seen c.put_number.new.out).faults _
    (decimal c.args.number) c.args.bytes.now _ c.in-Ok.ensures (omega (arith, c.requires.some)) c.put_bytes.ensures
