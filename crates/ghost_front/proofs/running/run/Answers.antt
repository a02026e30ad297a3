use Rattle.std.proofs.Common.{ap}
use Rattle.real_outside.specs.Gathering.{Gathered}
use Rattle.command_words.specs.Prelude.{texts}
use Rattle.ghost_front.specs.Prelude.{asked}
use Rattle.ghost_front.proofs.CallEnds.{begins, sink_of}
use Rattle.ghost_front.proofs.running.run.Goals as goal

pub returns : goal.returns
returns g c front tool =
    begins (asked (texts c.args.words.now)) _ _ _ _ _ _ _ _ (g.I.Read.remaining c.args.input) c.front.result
    c.new-shelf.ensures c.new-input.ensures
    (ap (λ (s : Gathered). sink_of s.faults) c.new-out.ensures)
    (ap (λ (s : Gathered). sink_of s.faults) c.new-errors.ensures)
    (c.front.ensures.served front tool)
