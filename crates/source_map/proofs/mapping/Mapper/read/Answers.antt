use Rattle.std.proofs.Common.{◌∙◌, arith}
use Rattle.source_map.specs.Scans.{scan_of}
use Rattle.source_map.proofs.Scanning.{scans_next}
use Rattle.source_map.proofs.mapping.Mapper.read.Goals as goal

pub loop-token-preserved : goal.loop-token-preserved
loop-token-preserved c = record {
  scan = c.loop-token.invariant.scan
      ∙ scans_next c.loop-token.self.count c.add.new.self.count (scan_of c.loop-token.self) (scan_of c.add.new.self)
      c.args.tokens.now c.loop-token.token-index c.token-item.result (omega arith) c.token-item.is
      c.in_ok-add.ensures.count c.in_ok-add.ensures.scan;
  count = omega (arith, c.in_ok-add.ensures.count);
}
