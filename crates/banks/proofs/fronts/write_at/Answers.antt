use Rattle.std.proofs.Common.{◌+◌, length, ap, arith}
use Rattle.banks.proofs.Blocks.{filled_up-more}
use Rattle.banks.proofs.FrontWords.{written, within}
use Rattle.banks.proofs.fronts.write_at.Goals as goal

pub write_over-requires : goal.write_over-requires
write_over-requires c =
    omega (
      arith,
      ap length c.as_mut_slice.ensures.value,
      ap length c.fill_up.ensures.items,
      filled_up-more (c.args.start + length c.args.from.now) c.args.words.now.items,
    )

pub returns-clause-words : goal.returns-clause-words
returns-clause-words c =
    written c.fill_up.new.words c.args.words.now.items c.as_mut_slice.result.now c.write_over.new.words c.args.from.now
    c.args.start c.fill_up.ensures.items c.as_mut_slice.ensures.value c.write_over.auto.words
    c.write_over.ensures

pub returns-clause-within : goal.returns-clause-within
returns-clause-within c =
    within c.fill_up.new.words c.args.words.now.items c.as_mut_slice.result.now c.write_over.new.words c.args.from.now
    c.args.start c.fill_up.ensures.items c.as_mut_slice.ensures.value c.write_over.auto.words
