use Rattle.std.proofs.Common.{arith}
use Rattle.flat_code.proofs.Listed.{terms_length}
use Rattle.flat_code.proofs.hoisting.next.Goals as goal

pub returns : goal.returns
returns c =
    omega
    (arith, c.in_ok-k.ensures, c.len.ensures, c.args.h.now.before.ok, terms_length c.args.h.now.before.items)
