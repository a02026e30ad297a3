use Rattle.std.proofs.Common.{◌-◌, ap, ◌∙◌, arith}
use Rattle.std.specs.Prelude.{bit_and}
use Rattle.std.proofs.lemmas.Nat.{and_mask, one_shl}
use Rattle.path_oram.proofs.leaves.low_bits.Goals as goal

pub returns-clause-leaf : goal.returns-clause-leaf
returns-clause-leaf c =
    ap (λ n. bit_and c.args.word (n - 1)) (one_shl c.args.height 64 (omega (arith, c.requires)))
    ∙ and_mask c.args.word c.args.height
