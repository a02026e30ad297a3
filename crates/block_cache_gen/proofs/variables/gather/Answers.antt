use Rattle.std.proofs.Common.{◌≡◌, ◌+◌, ◌-◌, get_or, arith}
use Rattle.gr_base.specs.Prelude.{found_under}
use Rattle.scratch_alloc.specs.Prelude.{no_place}
use Rattle.block_cache_gen.proofs.KnownNames.{one_more}
use Rattle.block_cache_gen.proofs.variables.gather.Goals as goal

pub loop-left-preserved : goal.loop-left-preserved
loop-left-preserved c =
    let more : c.loop-left.left ≡ c.loop-left.left - 1 + 1 = omega arith in
    let rest = rw more at c.loop-left.invariant.known in
    record {
      within = omega arith;
      known =
          one_more c.args.pins.now c.args.w c.args.held.now c.args.decls.now c.args.places.now c.args.slots.now
          (c.loop-left.left - 1) c.index-decls-left.result _ _ _
          c.bytes.result.now (found_under c.loop-left.variables) (found_under c.add_variable.new.variables)
          (omega arith)
          c.requires.places c.requires.slots c.index-decls-left.is c.bytes.ensures.bytes
          (λ i. record {
            label = c.index-decls-left.result.label;
            place = get_or c.args.places.now (c.loop-left.left - 1) no_place;
            slot = get_or c.args.slots.now (c.loop-left.left - 1) 0;
            resident = c.is_pinned.ensures i;
            further = c.further_blocks.ensures.count i;
            more = c.four_slots.ensures i;
            held = c.register_of_scalar.ensures.register i;
          })
          rest
          (c.in_ok-add_variable.ensures {u = tt});
    }
