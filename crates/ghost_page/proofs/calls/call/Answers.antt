use Rattle.std.proofs.Common.{ap, ◌∙◌}
use Rattle.gr_outside.specs.Prelude.{Held}
use Rattle.command_words.specs.Prelude.{texts}
use Rattle.ghost_page.proofs.Answered.{answered}
use Rattle.ghost_page.proofs.calls.call.Goals as goal

pub returns : goal.returns
returns c = answered c.args.lines.now c.args.program.now c.args.input.now (texts c.deref.result.now)
    c.in_ok-shelf.shelf c.ghostrider-status.new.shelf c.in_ok-sink.sink c.ghostrider-status.new.out
    c.ghostrider-status.result c.answer_of.result.status
    (ap texts c.deref.ensures.value ∙ c.in_ok-words.ensures) c.in_ok-shelf.ensures
    (ap (λ (s : Held). s.bytes) c.in_ok-sink.ensures) (ap (λ (s : Held). s.faults) c.in_ok-sink.ensures)
    c.answer_of.ensures.status c.ghostrider-status.ensures.promises c.answer_of.ensures.text c.answer_of.ensures.file
