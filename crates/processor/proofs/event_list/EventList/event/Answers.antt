use Rattle.std.proofs.Common.{ap, ◌∙◌}
use Rattle.processor.specs.Prelude.{event_of, entry_words}
use Rattle.processor.proofs.KeptEvents.{event_exists, told_at, entry_within}
use Rattle.processor.proofs.event_list.EventList.event.Goals as goal

pub index-requires : goal.index-requires
index-requires c = event_exists _ c.self.inside.entries _ _ _ c.self.view_is c.args.i c.requires

pub event_in-requires : goal.event_in-requires
event_in-requires c =
    rw c.as_slice.ensures.value
    (entry_within c.self.inside.words.items c.self.inside.entries _ _ _ c.self.view_is c.self.invariant.within c.args.i
    c.index.result.now c.index.ensures c.requires)

pub returns : goal.returns
returns c =
    c.event_in.ensures
    ∙ (ap (λ words. event_of c.index.result.now.kind (entry_words words c.index.result.now)) c.as_slice.ensures.value
    ∙ ap (λ s. s.event) (told_at c.self.inside.words.items c.self.inside.entries _ _ _ c.self.view_is c.args.i
    c.index.result.now c.index.ensures c.requires))
