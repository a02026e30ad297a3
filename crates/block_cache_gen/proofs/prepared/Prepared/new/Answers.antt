use Rattle.std.proofs.Common.{◌∙◌, sym, ap, length}
use Rattle.gr_base.specs.Prelude.{found_under}
use Rattle.scalar_ranges.specs.Prelude.{nothing_known}
use Rattle.block_cache_gen.specs.Prelude.{mask_to}
use Rattle.block_cache_gen.proofs.FrameParts.{frame_places, frame_slots, frame_claims, frame_names}
use Rattle.block_cache_gen.proofs.prepared.Prepared.new.Goals as goal

pub gather-requires-clause-places : goal.gather-requires-clause-places
gather-requires-clause-places c =
    ap length c.as_slice-2.ensures.value ∙ frame_places c.args.f.now c.requires
    ∙ sym (ap length c.as_slice.ensures.value)

pub gather-requires-clause-slots : goal.gather-requires-clause-slots
gather-requires-clause-slots c =
    ap length c.as_slice-slots.ensures.value ∙ frame_slots c.args.f.now c.requires
    ∙ sym (ap length c.as_slice.ensures.value)

pub invariant_of-result : goal.invariant_of-result
invariant_of-result c = (
  c.requires,
  (
    c.in_ok-known.ensures {u = tt} ∙ ap nothing_known (ap length c.as_slice-3.ensures.value),
    (
      c.claims_in-claims.ensures ∙ frame_claims c.args.f.now c.as_slice-slots.result.now c.requires c.as_slice-slots.ensures.value,
      (
        c.mask_of_held-mask.ensures
            ∙ ap (λ ds. mask_to ds c.args.f.now.held.now 32) c.as_slice-4.ensures.value,
        frame_names c.args.f.now (found_under c.in_ok-variables.variables) c.as_slice.result.now c.as_slice-2.result.now
            c.as_slice-slots.result.now c.as_slice.ensures.value c.as_slice-2.ensures.value
            c.as_slice-slots.ensures.value (c.in_ok-variables.ensures {u = tt}),
      ),
    ),
  ),
)
