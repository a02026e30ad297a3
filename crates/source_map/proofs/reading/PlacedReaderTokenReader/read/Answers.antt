use Rattle.source_map.proofs.Mapped.{mapped_more}
use Rattle.source_map.proofs.reading.PlacedReaderTokenReader.read.Goals as goal

pub returns-clause-read : goal.returns-clause-read
returns-clause-read g c =
    λ before has. (
      c.in_ok-read.ensures.read before has.0,
      mapped_more before c.args.tokens.now c.args.self.now.mapper c.read-2.new.self has.1 c.in_ok-read-2.ensures.scan
          c.in_ok-read-2.ensures.count,
    )
