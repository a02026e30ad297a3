use Rattle.std.proofs.Common.{◌≡◌, map, take}
use Rattle.std.specs.List.{flat_map}
use Rattle.run_data.specs.Prelude.{event_line, stamped_in}
use Rattle.run_data.proofs.traces.trace_text.Given as goal

abbrev pub invariant-loop-line : goal.invariant-loop-line
invariant-loop-line l =
    l.text.items ≡ flat_map (λ s. event_line s.stamp s.event) (map stamped_in (take l.line-index l.file.lines.items))
