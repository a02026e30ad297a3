use Rattle.std.proofs.Common.{List, Option, subst, ℕ}
use Rattle.command_words.specs.Prelude.{texts}
use Rattle.call_steps.specs.Prelude.{outside}
use Rattle.ghost_front.specs.Prelude.{Delivers, Echoes, IsCall, as_shelf, bytes_of, held_seen}
use Rattle.ghost_front.proofs.CallEnds.{streams_file}
use Rattle.ghost_front.proofs.serving.serve_to_output.Goals as goal

pub returns-clause-file : goal.returns-clause-file
returns-clause-file g c input =
    let verdict = c.ghostrider-verdict.result in
    let kept = c.ghostrider-verdict.new.out in
    let called : IsCall (texts c.args.words.now)
    (outside (as_shelf c.args.shelf.now) (held_seen c.new-held.result))
    (outside (as_shelf c.ghostrider-verdict.new.shelf) (held_seen kept)) verdict =
    record {
      promises = c.ghostrider-verdict.ensures.promises;
      headline = c.ghostrider-verdict.ensures.headline;
    } in
    streams_file (texts c.args.words.now) c.args.shelf.now c.ghostrider-verdict.new.shelf input
    (g.O.Sink.seen c.args.out.now) (g.O.Sink.seen c.deliver-status.new.out)
    (g.E.Sink.seen c.args.errors.now) (g.E.Sink.seen c.put_held.new.errors) kept verdict c.deliver-status.result
    (subst
    (λ (text : Option (List ℕ)). IsCall (texts c.args.words.now)
    (outside (as_shelf c.args.shelf.now) (held_seen text))
    (outside (as_shelf c.ghostrider-verdict.new.shelf) (held_seen kept)) verdict)
    c.new-held.ensures called)
    (subst
    (λ (file : Option (List ℕ)). Delivers file (g.O.Sink.seen c.args.out.now)
    (g.O.Sink.seen c.deliver-status.new.out) verdict c.deliver-status.result)
    c.output.ensures c.deliver-status.ensures.delivers)
    (subst
    (λ (text : Option (List ℕ)). Echoes (g.E.Sink.seen c.args.errors.now) (g.E.Sink.seen c.put_held.new.errors)
    (bytes_of text))
    c.into_text-text.ensures c.put_held.ensures)
