use Rattle.std.proofs.Common.{ap}
use Rattle.processor.proofs.KeptEvents.{event_exists, told_at}
use Rattle.processor.proofs.event_list.EventList.stamp.Goals as goal

pub index-requires : goal.index-requires
index-requires c = event_exists _ c.self.inside.entries _ _ _ c.self.view_is c.args.i c.requires

pub returns : goal.returns
returns c =
    ap (λ s. s.stamp) (told_at c.self.inside.words.items c.self.inside.entries _ _ _ c.self.view_is c.args.i
    c.index.result.now c.index.ensures c.requires)
