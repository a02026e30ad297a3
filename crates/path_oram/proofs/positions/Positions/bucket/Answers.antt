use Rattle.std.proofs.Common.{◌≡◌, ◌+◌, ◌*◌, ◌%◌, ◌^◌, ap, arith}
use Rattle.std.proofs.lemmas.Nat.{one_shl}
use Rattle.path_oram.specs.Prelude.{bucket_number}
use Rattle.path_oram.proofs.PathNumbers.{number_bound}
use Rattle.path_oram.proofs.Slots.{bucket_blocks, count_buckets}
use Rattle.path_oram.proofs.positions.Positions.bucket.Goals as goal

pub returns-clause-blocks : goal.returns-clause-blocks
returns-clause-blocks c =
    let high = ap (λ p. p.height) c.self.view_is in
    let number : 1 * 2 ^ c.args.level % 4294967296 + c.args.index ≡ bucket_number c.args.level c.args.index =
    omega (
      arith,
      one_shl c.args.level 32 (omega (arith, c.requires.level, high, c.self.invariant.height)),
    ) in
    bucket_blocks c.self.inside.tree.items c.args.self.now.tree _ (bucket_number c.args.level c.args.index)
    c.index.result.now (ap (λ p. p.tree) c.self.view_is)
    (omega (
      arith,
      number,
      number_bound c.self.inside.height c.args.level c.args.index (omega (arith, c.requires.level, high))
          c.requires.index,
      c.self.invariant.whole.buckets,
      count_buckets c.self.inside.tree.items,
    ))
    number c.index.ensures
