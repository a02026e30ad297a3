use Rattle.std.proofs.Common.{rules, ◌≡◌, ◌∷◌, [], true, sym, subst}
use Rattle.lt_isa.specs.Prelude.{observed_of}
use Rattle.processor.specs.Prelude.{TellsMore}
use Rattle.bus_arbiter.specs.Prelude.{moved_by}
use Rattle.machine_verbs.specs.Prelude.{HoldsTransfers}
use Rattle.machine_verbs.proofs.BusWatches.{transfer_told}
use Rattle.machine_verbs.proofs.bus_lines.BusLinesBusWatch.transfer.Goals as goal

pub returns-in-Ok-clause-heard : goal.returns-in-Ok-clause-heard
returns-in-Ok-clause-heard g c =
    let w = c.args.self.now in
    let before = (g.O.Sink.seen w.out.now).held in
    let now = (g.O.Sink.seen c.put_transfer.new.out).held in
    let whole : w.whole ≡ true = search rules in
    subst (λ q. TellsMore (HoldsTransfers before w.start w.stop q) (HoldsTransfers now w.start c.mark-self.result q)
    (moved_by c.args.core c.args.stamp (observed_of c.args.event.now) ∷ [])) (sym whole)
    (transfer_told before now w.start w.stop c.mark-self.result _ c.in-Ok.ensures.added)
