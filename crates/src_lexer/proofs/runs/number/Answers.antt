use Rattle.std.proofs.Common.{◌≡◌, true, take, subst, sym}
use Rattle.std.specs.Char.{is_ascii_digit}
use Rattle.std.specs.List.{list_all}
use Rattle.src_lexer.proofs.Longest.{prefix_each}
use Rattle.src_lexer.proofs.runs.number.Goals as goal

pub number_capped-value-requires : goal.number_capped-value-requires
number_capped-value-requires c =
    subst (λ n. list_all is_ascii_digit (take n c.args.run.now) ≡ true) (sym c.digits-count.ensures)
    (prefix_each is_ascii_digit c.args.run.now)
