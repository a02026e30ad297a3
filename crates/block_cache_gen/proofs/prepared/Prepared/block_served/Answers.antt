use Rattle.std.proofs.Common.{length, sym, ap, ◌∙◌}
use Rattle.block_cache_gen.proofs.FrameParts.{frame_places, frame_slots}
use Rattle.block_cache_gen.proofs.prepared.Prepared.block_served.Goals as goal

pub block_of_first-requires : goal.block_of_first-requires
block_of_first-requires c =
    let frame = c.self.inside.frame in
    ap length c.as_slice-places.ensures.value
    ∙ frame_places frame c.self.invariant.0
    ∙ sym (frame_slots frame c.self.invariant.0)
    ∙ sym (ap length c.as_slice-slots.ensures.value)
