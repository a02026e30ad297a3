use Rattle.std.proofs.Common.{◌≡◌, ◌+◌, drop}
use Rattle.src_parser.specs.Refusals.{token_kinds}
use Rattle.source_map.specs.Scans.{scan_of, scans}
use Rattle.source_map.proofs.mapping.Mapper.read.Given as goal

abbrev pub invariant-loop-token : goal.invariant-loop-token
invariant-loop-token l = record {
  scan : scans l.fn.self.count (scan_of l.fn.self) (token_kinds l.tokens)
      ≡ scans l.self.count (scan_of l.self) (token_kinds (drop l.token-index l.tokens));
  count : l.self.count ≡ l.fn.self.count + l.token-index;
}
