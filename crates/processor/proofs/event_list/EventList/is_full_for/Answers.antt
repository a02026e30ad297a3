use Rattle.std.proofs.Common.{◌∙◌, ap, leb, arith}
use Rattle.lt_isa.specs.Prelude.{observed_of}
use Rattle.processor.proofs.KeptEvents.{full_of_events, full_of_words}
use Rattle.processor.proofs.event_list.EventList.is_full_for.Goals as goal

pub returns-then-len-self : goal.returns-then-len-self
returns-then-len-self c =
    ap (leb c.self.inside.event_room) c.len.ensures
    ∙ full_of_events c.self.inside.words.items c.self.inside.entries c.self.inside.event_room _ _ c.self.view_is
    (observed_of c.args.event.now) (omega (arith, c.if-len-self.true, c.len.ensures))

pub returns-else-len-self : goal.returns-else-len-self
returns-else-len-self c =
    full_of_words c.self.inside.words.items c.self.inside.entries c.self.inside.event_room _ _ c.self.view_is
    (observed_of c.args.event.now) c.len-else-len-self.result c.words_shown-words.result.now
    (omega (arith, c.if-len-self.false, c.len.ensures)) (c.len-else-len-self.ensures ∙ c.self.inside.words.ok.0)
    c.self.invariant.words_fit c.self.invariant.counted c.words_shown-words.ensures
