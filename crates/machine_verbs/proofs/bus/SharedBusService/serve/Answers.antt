use Rattle.std.proofs.Common.{None, refl}
use Rattle.call_replies.specs.declared.replies.Reply.TheVariants.{NoMemory}
use Rattle.call_steps.specs.Prelude.{StopsHere, NoRoomYet, WorkStops, stage}
use Rattle.call_steps.proofs.Answering.{passed-on}
use Rattle.machine_verbs.proofs.Pairing.{bus-reached, bus-stopped}
use Rattle.call_steps.proofs.Progressing.{same-only}
use Rattle.machine_verbs.proofs.SharedBus.{shared-said}
use Rattle.machine_verbs.proofs.bus.SharedBusService.serve.Goals as goal

pub returns-in_err-cores-clause-stopped : goal.returns-in_err-cores-clause-stopped
returns-in_err-cores-clause-stopped g c =
    passed-on c.from_residual.result _ _ _ _ c.from_residual.ensures.1
    (WorkStops _ refl
    (bus-stopped c.args.words.cycles c.as_slice.ensures.value c.in_err-cores.ensures.stopped).stops)

pub returns-in_err-share_bus-clause-stopped : goal.returns-in_err-share_bus-clause-stopped
returns-in_err-share_bus-clause-stopped g c =
    let reached = bus-reached c.args.words.cycles c.as_slice.ensures.value c.in_ok-cores.ensures.found in
    passed-on c.from_residual-in_err-share_bus.result NoMemory _ _ _ c.from_residual-in_err-share_bus.ensures.1
    (NoRoomYet (same-only reached.calm) refl)

pub returns-clause-done : goal.returns-clause-done
returns-clause-done g c =
    let n = c.args.words.cycles in
    shared-said (stage (g.F.Shelf.seen c.args.shelf.now) (g.F.Shelf.log c.args.shelf.now))
    (stage (g.F.Shelf.seen c.read_cores.new.shelf) (g.F.Shelf.log c.read_cores.new.shelf))
    (g.O.Sink.seen c.args.out.now) (g.O.Sink.seen c.share_bus.new.out) _ c.args.words.pairs.items n
    c.in_ok-cores.cores (bus-reached n c.as_slice.ensures.value c.in_ok-cores.ensures.found)
    c.in_ok-share_bus.ensures.shared

pub returns-in_err-cores-clause-calls : goal.returns-in_err-cores-clause-calls
returns-in_err-cores-clause-calls g c =
    (bus-stopped c.args.words.cycles c.as_slice.ensures.value c.in_err-cores.ensures.stopped).calls

pub returns-in_err-share_bus-clause-calls : goal.returns-in_err-share_bus-clause-calls
returns-in_err-share_bus-clause-calls g c = (
  None,
  (bus-reached c.args.words.cycles c.as_slice.ensures.value c.in_ok-cores.ensures.found).calls None _
      (StopsHere _ _),
)

pub returns-clause-calls : goal.returns-clause-calls
returns-clause-calls g c = (
  None,
  (bus-reached c.args.words.cycles c.as_slice.ensures.value c.in_ok-cores.ensures.found).calls None _
      (StopsHere _ _),
)
