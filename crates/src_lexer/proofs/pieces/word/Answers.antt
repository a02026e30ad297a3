use Rattle.std.proofs.Common.{◌≡◌, true, take, subst, sym}
use Rattle.std.specs.List.{list_all}
use Rattle.gr_word.specs.Prelude.{is_name_byte}
use Rattle.src_lexer.proofs.Longest.{prefix_each}
use Rattle.src_lexer.proofs.pieces.word.Goals as goal

pub classify-requires-clause-each : goal.classify-requires-clause-each
classify-requires-clause-each c =
    subst (λ n. list_all is_name_byte (take n c.args.text.now) ≡ true) (sym c.name_length-size.ensures)
    (prefix_each is_name_byte c.args.text.now)
