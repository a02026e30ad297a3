use Rattle.std.proofs.Common.{◌-◌, arith, drop, take, length, length-take}
use Rattle.std.proofs.lemmas.List.Sums.{prefix_len-le-length}
use Rattle.src_lexer.specs.Prelude.{is_in_line}
use Rattle.src_lexer.proofs.pieces.comment_length.Goals as goal

pub overflow_add-result : goal.overflow_add-result
overflow_add-result c =
    let line = take (length c.args.text.now - 2) (drop 2 c.args.text.now) in
    let h = prefix_len-le-length is_in_line line in
    let k = length-take (length c.args.text.now - 2) (drop 2 c.args.text.now) in
    let e = c.line_length.ensures in
    omega arith
