use Rattle.std.proofs.Common.{append_assoc, refl, arith}
use Rattle.lt_assembler.proofs.Hex.{hex_more}
use Rattle.lt_assembler.proofs.putting.+put_hex.Goals as goal

pub returns : goal.returns
returns t c =
    let e = hex_more c.args.count c.args.number (omega arith) in
    rw (e, c.in_ok-push.ensures.items, c.in_ok-put_hex.ensures, c.hex_digit.ensures) (simp append_assoc refl)
