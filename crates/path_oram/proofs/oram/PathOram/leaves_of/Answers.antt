use Rattle.std.proofs.Common.{ap, arith, length}
use Rattle.path_oram.proofs.oram.PathOram.leaves_of.Goals as goal

pub index-old-requires : goal.index-old-requires
index-old-requires g c =
    omega (
      arith,
      c.requires,
      ap length c.self.invariant.leaves,
      c.self.invariant.tree.count,
      ap (λ o. length o.contents) c.self.view_is,
    )
