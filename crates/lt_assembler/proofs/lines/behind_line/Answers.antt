use Rattle.std.proofs.lemmas.List.Sums.{prefix_len-le-length}
use Rattle.lt_assembler.proofs.Splitting.{is_no_feed}
use Rattle.lt_assembler.proofs.lines.behind_line.Goals as goal

pub split_at-requires : goal.split_at-requires
split_at-requires c = rw c.line_len.ensures (prefix_len-le-length is_no_feed c.args.text.now)
