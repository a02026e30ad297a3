use Rattle.std.proofs.Common.{◌≡◌, map, take, length}
use Rattle.run_data.specs.Prelude.{stamped_in, contents, AreRead}
use Rattle.run_data.proofs.traces.read_events.Given as goal

abbrev pub invariant-loop-line : goal.invariant-loop-line
invariant-loop-line l = record {
  read : AreRead l.size (take l.line-index (contents l.lines)) (map stamped_in l.found.items) l.halted l.least;
  count : length l.found.items ≡ l.line-index;
}
