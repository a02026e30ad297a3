use Rattle.std.proofs.Common.{◌+◌, ap, ◌∙◌, arith}
use Rattle.machine_verbs.proofs.Pairing.{reads-last, reads-next, reads-stop}
use Rattle.machine_verbs.proofs.bus.read_cores.Goals as goal

pub reading-preserved : goal.reading-preserved
reading-preserved g c = record {
  count = c.in-Ok.ensures.one ∙ ap (λ n. n + 1) c.reading.invariant.count;
  are = c.in-Ok.ensures.read;
  read =
      reads-next c.args.pairs.now c.reading.pair-index c.pair-item.result c.reading-test.true c.reading.cores
      c.reading.invariant.read c.pair-item.is c.reading.invariant.count _ c.in-Ok.ensures.found;
}

pub returns-in-Err-clause-stopped : goal.returns-in-Err-clause-stopped
returns-in-Err-clause-stopped g c =
    reads-stop c.args.pairs.now c.reading.pair-index c.pair-item.result c.reading-test.true c.reading.cores
    c.reading.invariant.read c.pair-item.is c.reading.invariant.count c.in-Err.ensures.stopped

pub returns-clause-found : goal.returns-clause-found
returns-clause-found g c =
    reads-last c.args.pairs.now c.reading.pair-index c.reading.cores c.reading.invariant.read
    (omega (arith, c.reading-test.false))
