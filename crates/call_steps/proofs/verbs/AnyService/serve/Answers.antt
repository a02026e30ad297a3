use Rattle.std.proofs.Common.{refl}
use Rattle.call_steps.specs.Prelude.{WorkStops, stage}
use Rattle.call_steps.proofs.Answering.{passed-on, written-said}
use Rattle.call_steps.proofs.CallsMade.{write-tried}
use Rattle.call_steps.proofs.verbs.AnyService.serve.Goals as goal

pub returns-in_err-file-clause-stopped : goal.returns-in_err-file-clause-stopped
returns-in_err-file-clause-stopped g c =
    passed-on c.from_residual.result _ _ _ _ c.from_residual.ensures.1
    (WorkStops _ refl c.in_err-file.ensures.stopped.stops)

pub returns-clause-done : goal.returns-clause-done
returns-clause-done g c =
    written-said (stage (g.F.Shelf.seen c.args.shelf.now) (g.F.Shelf.log c.args.shelf.now))
    (stage (g.F.Shelf.seen c.make.new.shelf) (g.F.Shelf.log c.make.new.shelf))
    (stage (g.F.Shelf.seen c.write_and_say.new.shelf) (g.F.Shelf.log c.write_and_say.new.shelf))
    (g.O.Sink.seen c.args.out.now) (g.O.Sink.seen c.write_and_say.new.out) c.write_and_say.result _ _ _ _
    c.in_ok-file.file.done c.in_ok-file.ensures.made c.deref.ensures.value c.write_and_say.ensures.left
    c.write_and_say.ensures.noted

pub returns-clause-calls : goal.returns-clause-calls
returns-clause-calls g c =
    let tried = write-tried _ _ _ c.in_ok-file.file.done _ _ c.deref.ensures.value c.write_and_say.ensures.calls in
    (tried.0, c.in_ok-file.ensures.made.calls tried.0 (g.F.Shelf.log c.write_and_say.new.shelf) tried.1)
