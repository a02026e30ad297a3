use Rattle.std.proofs.Common.{pos, ◌+◌, get_or, ap, ◌∙◌, arith}
use Rattle.banks.proofs.Blocks.{exists_in, block_of_bank}
use Rattle.banks.proofs.plain_bank.PlainBankBank.read.Goals as goal

pub first_word_number-start-requires-clause-exists : goal.first_word_number-start-requires-clause-exists
first_word_number-start-requires-clause-exists c = exists_in _ _ _ _ c.args.at c.self.view_is c.requires.exists

pub returns-clause-filled : goal.returns-clause-filled
returns-clause-filled c =
    block_of_bank c.self.inside.block_words c.self.inside.count c.self.inside.words.items c.self.invariant.within _
    c.self.view_is c.args.at c.requires.exists
    c.first_word_number-start.result c.first_word_number-start.ensures.start c.read_at.new.into
    (c.read_at.auto.into ∙ c.requires.size)
    (λ i below.
    c.read_at.ensures i (omega (arith, below, c.read_at.auto.into))
    ∙ ap (λ list. get_or list (c.first_word_number-start.result + i) (pos 0)) c.as_slice.ensures.value)
