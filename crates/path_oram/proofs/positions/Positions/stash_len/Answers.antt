use Rattle.std.proofs.Common.{ap, arith, length}
use Rattle.path_oram.proofs.Slots.{count_blocks}
use Rattle.path_oram.proofs.Written.{whole_stash, whole_small}
use Rattle.path_oram.proofs.positions.Positions.stash_len.Goals as goal

pub overflow_cast-result : goal.overflow_cast-result
overflow_cast-result c =
    omega (
      arith,
      whole_stash _ c.self.invariant.whole,
      whole_small _ c.self.invariant.whole c.self.invariant.height,
      count_blocks c.self.inside.stash.items,
      c.len.ensures,
      c.self.inside.stash.ok.0,
    )

pub returns-clause-len : goal.returns-clause-len
returns-clause-len c =
    omega (
      arith,
      count_blocks c.self.inside.stash.items,
      c.len.ensures,
      c.self.inside.stash.ok.0,
      ap (λ p. length p.stash) c.self.view_is,
    )
