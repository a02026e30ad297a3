use Rattle.std.proofs.Common.{◌≡◌}
use Rattle.block_cache_gen.specs.Prelude.{mask_to}
use Rattle.block_cache_gen.proofs.prepared.mask_of_held.Given as goal

abbrev pub invariant-loop-register : goal.invariant-loop-register
invariant-loop-register l = l.mask ≡ mask_to l.decls l.held l.register
