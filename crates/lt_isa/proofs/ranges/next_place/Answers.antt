use Rattle.std.proofs.Common.{◌+◌, ap, sym, ◌∙◌, arith}
use Rattle.gr_base.proofs.AtLast.{at_last-get_or}
use Rattle.lt_isa.proofs.ranges.next_place.Goals as goal

pub returns-in-len1-up : goal.returns-in-len1-up
returns-in-len1-up c =
    ap (λ n. n + 1) c.from.ensures ∙ sym (at_last-get_or (λ n. n.pc + 1) c.args.before.now _ _ (omega arith))
