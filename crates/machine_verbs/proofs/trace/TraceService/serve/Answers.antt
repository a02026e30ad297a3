use Rattle.std.proofs.Common.{None, refl}
use Rattle.call_steps.specs.Prelude.{StopsHere, NoRoomYet, WorkStops, stage}
use Rattle.call_replies.specs.declared.replies.Reply.TheVariants.{NoMemory}
use Rattle.machine_verbs.specs.Prelude.{traces_on}
use Rattle.call_steps.proofs.Answering.{passed-on}
use Rattle.call_steps.proofs.Progressing.{same-only}
use Rattle.machine_verbs.proofs.trace.TraceService.serve.Goals as goal

pub returns-in_err-given-clause-stopped : goal.returns-in_err-given-clause-stopped
returns-in_err-given-clause-stopped g c =
    let words = c.args.words in
    passed-on c.from_residual.result _ _ _ _ c.from_residual.ensures.1
    (WorkStops _ refl
    (c.in_err-given.ensures.stopped (traces_on words.paths words.recursive words.cycles words.seed)).stops)

pub returns-in_err-trace_given-clause-stopped : goal.returns-in_err-trace_given-clause-stopped
returns-in_err-trace_given-clause-stopped g c =
    let words = c.args.words in
    let reached = c.in_ok-given.ensures.found (traces_on words.paths words.recursive words.cycles words.seed) in
    passed-on c.from_residual-in_err-trace_given.result NoMemory _ _ _ c.from_residual-in_err-trace_given.ensures.1
    (NoRoomYet (same-only reached.calm) refl)

pub returns-clause-done : goal.returns-clause-done
returns-clause-done g c =
    let words = c.args.words in
    c.in_ok-trace_given.ensures.done (stage (g.F.Shelf.seen c.args.shelf.now) (g.F.Shelf.log c.args.shelf.now))
    (stage (g.F.Shelf.seen c.find_given.new.shelf) (g.F.Shelf.log c.find_given.new.shelf)) _
    (c.in_ok-given.ensures.found (traces_on words.paths words.recursive words.cycles words.seed))

pub returns-in_err-given-clause-calls : goal.returns-in_err-given-clause-calls
returns-in_err-given-clause-calls g c =
    let words = c.args.words in
    (c.in_err-given.ensures.stopped (traces_on words.paths words.recursive words.cycles words.seed)).calls

pub returns-in_err-trace_given-clause-calls : goal.returns-in_err-trace_given-clause-calls
returns-in_err-trace_given-clause-calls g c =
    let words = c.args.words in (
      None,
      (c.in_ok-given.ensures.found (traces_on words.paths words.recursive words.cycles words.seed)).calls None _
          (StopsHere _ _),
    )

pub returns-clause-calls : goal.returns-clause-calls
returns-clause-calls g c =
    let words = c.args.words in (
      None,
      (c.in_ok-given.ensures.found (traces_on words.paths words.recursive words.cycles words.seed)).calls None _
          (StopsHere _ _),
    )
