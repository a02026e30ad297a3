use Rattle.std.proofs.Common.{◌∙◌}
use Rattle.processor.proofs.KeptEvents.{event_count}
use Rattle.processor.proofs.event_list.EventList.len.Goals as goal

pub returns : goal.returns
returns c = c.len.ensures ∙ event_count _ c.self.inside.entries _ _ _ c.self.view_is
