use Rattle.std.proofs.Common.{◌^◌, get_or, ap, ◌∙◌}
use Rattle.lt_isa.specs.Prelude.{no_bank}
use Rattle.processor.proofs.StartImages.{front-starting}
use Rattle.processor.proofs.starting.bank_at_start.Goals as goal

pub returns : goal.returns
returns c =
    front-starting c.args.accepted.now c.object-object.result.now c.object-object.ensures.object c.args.inputs.now
    c.args.bank c.in_ok-front.front.items
    c.in_ok-front.ensures.within c.in_ok-front.ensures.words c.with_front.result c.block_words-width.result
    (get_or c.banks.result.now c.args.bank no_bank).blocks
    (c.block_words-width.ensures.words ∙ ap (λ p. 2 ^ p.block_log) c.profile.ensures.value)
    (ap (λ list. (get_or list c.args.bank no_bank).blocks) c.banks.ensures.value)
    c.with_front.ensures.contents c.with_front.ensures.width
