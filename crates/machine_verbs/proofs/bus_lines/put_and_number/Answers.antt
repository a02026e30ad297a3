use Rattle.std.specs.Prelude.{decimal}
use Rattle.std.proofs.Common.{rules}
use Rattle.std.proofs.lemmas.Fmt.{decimal_nonempty}
use Rattle.machine_verbs.proofs.PutBehind.{puts-cut, puts-then}
use Rattle.machine_verbs.proofs.bus_lines.put_and_number.Goals as goal

pub returns-in-Err : goal.returns-in-Err
returns-in-Err g c = puts-cut _ _ _ _ c.args.bytes.now (decimal c.args.number) _ c.in-Err.ensures

pub returns : goal.returns
returns g c =
    puts-then _ (g.O.Sink.seen c.put_bytes.new.out).held _ _ (g.O.Sink.seen c.put_bytes.new.out).faults _
    c.args.bytes.now (decimal c.args.number) _ c.in-Ok.ensures
    (decimal_nonempty c.args.number (search rules)) c.put_number.ensures
