use Rattle.std.proofs.Common.{◌≡◌, true, false, ap, rules, subst, sym, ◌∙◌}
use Rattle.command_words.specs.Prelude.{texts}
use Rattle.ghost_front.specs.declared.dashes.Dashes.{Dashes}
use Rattle.ghost_front.specs.Prelude.{Takes}
use Rattle.ghost_front.proofs.CallEnds.{printed, streamed}
use Rattle.ghost_front.proofs.serving.serve.Goals as goal

pub returns-then-dashes-clause-served : goal.returns-then-dashes-clause-served
returns-then-dashes-clause-served g c =
    let written : c.in-Ok.dashes.written ≡ true = search rules in
    streamed (texts c.args.words.now) c.args.shelf.now c.take_input.new.shelf c.serve_to_output.new.shelf
    c.args.input.now c.take_input.new.input
    (g.O.Sink.seen c.args.out.now) (g.O.Sink.seen c.serve_to_output.new.out)
    (g.E.Sink.seen c.args.errors.now) (g.E.Sink.seen c.serve_to_output.new.errors) c.serve_to_output.result.status
    (subst
    (λ (d : Dashes). Takes d.read c.args.input.now c.take_input.new.input c.args.shelf.now c.take_input.new.shelf)
    c.in-Ok.ensures c.in-Ok-take_input.ensures.taken)
    (ap (λ (d : Dashes). d.written) (sym c.in-Ok.ensures) ∙ written)
    (c.serve_to_output.ensures.file c.take_input.new.input)

pub returns-else-dashes-clause-served : goal.returns-else-dashes-clause-served
returns-else-dashes-clause-served g c =
    let unwritten : c.in-Ok.dashes.written ≡ false = search rules in
    printed (texts c.args.words.now) c.args.shelf.now c.take_input.new.shelf c.serve_verb-else-dashes.new.shelf
    c.args.input.now c.take_input.new.input
    (g.O.Sink.seen c.args.out.now) (g.O.Sink.seen c.serve_verb-else-dashes.new.out)
    (g.E.Sink.seen c.args.errors.now) c.serve_verb-else-dashes.result.status
    (subst
    (λ (d : Dashes). Takes d.read c.args.input.now c.take_input.new.input c.args.shelf.now c.take_input.new.shelf)
    c.in-Ok.ensures c.in-Ok-take_input.ensures.taken)
    (ap (λ (d : Dashes). d.written) (sym c.in-Ok.ensures) ∙ unwritten)
    c.serve_verb-else-dashes.ensures.call
