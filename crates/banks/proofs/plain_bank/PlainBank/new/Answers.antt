use Rattle.std.proofs.Common.{◌∙◌, arith}
use Rattle.banks.proofs.Blocks.{whole-bank}
use Rattle.banks.proofs.plain_bank.PlainBank.new.Goals as goal

pub returns-clause-contents : goal.returns-clause-contents
returns-clause-contents c =
    c.with_front.ensures.contents
    ∙ whole-bank c.args.block_words c.args.blocks.items c.len.result (omega arith) (omega arith) c.requires.whole_blocks
