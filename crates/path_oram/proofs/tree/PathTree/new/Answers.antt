use Rattle.std.proofs.Common.{length, ap, ◌/◌, arith}
use Rattle.banks.proofs.Blocks.{length-cut}
use Rattle.path_oram.proofs.tree.PathTree.new.Goals as goal

pub over-requires-clause-count : goal.over-requires-clause-count
over-requires-clause-count c =
    omega (
      arith,
      ap length c.new.ensures.contents,
      length-cut c.args.block_words (length c.args.blocks.items / c.args.block_words) c.args.blocks.items,
      c.requires.count,
      c.in_ok-leaves.ensures.len,
      c.in_ok-leaves.leaves.ok.0,
    )
