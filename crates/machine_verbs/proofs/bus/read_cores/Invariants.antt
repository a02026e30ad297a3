use Rattle.std.proofs.Common.{◌≡◌, length}
use Rattle.call_steps.specs.Prelude.{stage}
use Rattle.machine_verbs.specs.Prelude.{AreRead}
use Rattle.machine_verbs.proofs.Pairing.{HasRead}
use Rattle.machine_verbs.proofs.bus.read_cores.Given as goal

abbrev pub invariant-reading : goal.invariant-reading
invariant-reading g l = record {
  count : length l.cores.plan ≡ l.pair-index;
  are : AreRead l.cores;
  read : HasRead (stage (g.F.Shelf.seen l.fn.shelf) (g.F.Shelf.log l.fn.shelf))
      (stage (g.F.Shelf.seen l.shelf) (g.F.Shelf.log l.shelf)) l.pairs l.pair-index l.cores;
}
