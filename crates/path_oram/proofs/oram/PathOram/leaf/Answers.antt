use Rattle.std.proofs.Common.{ap, arith, length}
use Rattle.path_oram.proofs.oram.PathOram.leaf.Goals as goal

pub index-requires : goal.index-requires
index-requires g c =
    omega (
      arith,
      c.requires.exists,
      ap length c.self.invariant.leaves,
      c.self.invariant.tree.count,
      ap (λ o. length o.contents) c.self.view_is,
    )
